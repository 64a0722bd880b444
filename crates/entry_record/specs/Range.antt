-- The ranges of the numbers in an entry: those that their types have.
use Rattle.std.specs.Prelude.{◌<◌, ◌^◌}
use Rattle.chronicle.specs.declared.who.Who.{Who}
use Rattle.chronicle.specs.declared.who.Who.TheVariants.{Setup, Session, Expiry}
use Rattle.probe_core.specs.declared.rule.Rule.{Rule}
use Rattle.probe_core.specs.declared.rule.Rule.TheVariants.{Threshold, Manual, Depends}
use Rattle.desk_core.specs.declared.call.Call.{Call}
use Rattle.desk_core.specs.declared.call.Call.TheVariants.{Register, Retire, Observe, Set, Shutdown, Resume}
use Rattle.entry_record.specs.declared.stored.Stored.{Stored}

-- a session's number has four bytes
abbrev pub IsWho : Who → Type 0
IsWho Setup = Unit {0}
IsWho (Session number) = number < 2 ^ 32
IsWho Expiry = Unit {0}

-- a rule's counts have four bytes each, and a mask has two
abbrev pub IsRule : Rule → Type 0
IsRule (Threshold fall rise start) = (fall < 2 ^ 32) × (rise < 2 ^ 32)
IsRule Manual = Unit {0}
IsRule (Depends mask) = mask < 2 ^ 16

-- there are 16 slots
abbrev pub IsCall : Call → Type 0
IsCall (Register slot rule) = (slot < 16) × IsRule rule
IsCall (Retire slot) = slot < 16
IsCall (Observe slot finding) = slot < 16
IsCall (Set slot setting) = slot < 16
IsCall Shutdown = Unit {0}
IsCall Resume = Unit {0}

-- each number of an entry is in its range
pub record IsStored (stored : Stored) : Type 0 where
  pub micros : stored.micros < 2 ^ 64
  pub who : IsWho stored.who
  pub seat : stored.entry.seat < 2 ^ 16
  pub call : IsCall stored.entry.call
