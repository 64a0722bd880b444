-- Which histories one thread over a plain map from services to statuses can have.
use Rattle.std.specs.Prelude.{◌≡◌, List, [], ◌∷◌}
use Rattle.desk_core.specs.declared.call.Call.{Call}
use Rattle.desk_core.specs.declared.call.Call.TheVariants.{Register, Retire, Observe, Set, Shutdown, Resume}
use Rattle.desk_core.specs.declared.entry.Entry.{Entry}
use Rattle.desk_core.specs.Present.{IsLawful}
use Rattle.desk_core.specs.Reply.{reply_to}

-- only lawful rules are registered
abbrev pub IsLawfulCall : Call → Type 0
IsLawfulCall (Register slot rule) = IsLawful slot rule
IsLawfulCall (Retire slot) = Unit {0}
IsLawfulCall (Observe slot finding) = Unit {0}
IsLawfulCall (Set slot setting) = Unit {0}
IsLawfulCall Shutdown = Unit {0}
IsLawfulCall Resume = Unit {0}

-- each change has the reply that the history before it gives
abbrev pub IsLegal : List Entry → Type 0
IsLegal [] = Unit {0}
IsLegal (entry ∷ older) = IsLegal older × (entry.reply ≡ reply_to older entry.call) × IsLawfulCall entry.call
