-- What sessions are held over.
use Rattle.std.specs.Prelude.{ℕ, ◌≡◌, List}
use Rattle.reactor.specs.declared.talking.Attendant.{Attendant}

-- the console, and the server beside it
abbrev pub stands : {P C V M : Type 0} → Attendant P C V M → C × V
stands attendant = (attendant.console.now, attendant.server)

-- others may have made anything of the console but for the names of its catalogue, and of the server
abbrev pub keeps_names : {C V : Type 0} → (C → List (List ℕ)) → C × V → C × V → Type 0
keeps_names names old new = names new.0 ≡ names old.0
