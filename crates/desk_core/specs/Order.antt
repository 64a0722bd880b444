-- What is asked for by name.
use Rattle.std.specs.Prelude.{ℕ, ◌<◌, List, length, Option, Some}
use Rattle.std.specs.Option.{option_map}
use Rattle.desk_core.specs.declared.call.Call.{Call}
use Rattle.desk_core.specs.declared.call.Call.TheVariants as calls
use Rattle.desk_core.specs.declared.order.Order.{Order as OrderOf}
use Rattle.desk_core.specs.declared.order.Order.TheVariants.{Observe, Set, Shutdown, Resume}
use Rattle.desk_core.specs.Catalogue.{slot_of}

-- the change at the slot of a name; none where the name has none
abbrev pub call_at : List (List ℕ) → (ℕ → Call) → List ℕ → Option Call
call_at names call name = option_map call (slot_of names name)

-- the change that an order asks for; none where its name is not listed
abbrev pub ordered : List (List ℕ) → OrderOf → Option Call
ordered names (Observe name finding) = call_at names (λ slot. calls.Observe slot finding) name
ordered names (Set name setting) = call_at names (λ slot. calls.Set slot setting) name
ordered names Shutdown = Some calls.Shutdown
ordered names Resume = Some calls.Resume

-- the change is of a service of the catalogue, or of all of them
abbrev pub IsListed : List (List ℕ) → Call → Type 0
IsListed names (calls.Register slot rule) = slot < length names
IsListed names (calls.Retire slot) = slot < length names
IsListed names (calls.Observe slot finding) = slot < length names
IsListed names (calls.Set slot setting) = slot < length names
IsListed names calls.Shutdown = Unit {0}
IsListed names calls.Resume = Unit {0}
