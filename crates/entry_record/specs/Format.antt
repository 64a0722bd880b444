-- The bytes that a journal's file keeps of an entry. A number of several bytes has its lowest byte first.
use Rattle.std.specs.Prelude.{ℕ, List, [], ◌∷◌, ◌++◌}
use Rattle.std.specs.Int.{w16, w32, w64, to_le_bytes}
use Rattle.chronicle.specs.declared.who.Who.{Who}
use Rattle.chronicle.specs.declared.who.Who.TheVariants.{Setup, Session, Expiry}
use Rattle.probe_core.specs.declared.rule.Rule.{Rule}
use Rattle.probe_core.specs.declared.rule.Rule.TheVariants.{Threshold, Manual, Depends}
use Rattle.probe_core.specs.declared.start.Start.{Start}
use Rattle.probe_core.specs.declared.start.Start.TheVariants as start
use Rattle.desk_core.specs.declared.call.Finding.TheVariants.{Pass, Fail}
use Rattle.desk_core.specs.declared.call.Setting.TheVariants.{Up, Down}
use Rattle.desk_core.specs.declared.call.Call.{Call}
use Rattle.desk_core.specs.declared.call.Call.TheVariants.{Register, Retire, Observe, Set, Shutdown, Resume}
use Rattle.desk_core.specs.declared.reply.Reply.{Reply}
use Rattle.desk_core.specs.declared.reply.Reply.TheVariants.{Done, Replaced, Missing, WrongKind, Ignored}
use Rattle.entry_record.specs.declared.stored.Stored.{Stored}

-- who asked: one byte, and after a session's its number in four bytes
abbrev pub who_bytes : Who → List ℕ
who_bytes Setup = 0 ∷ []
who_bytes (Session number) = 1 ∷ to_le_bytes w32 number
who_bytes Expiry = 2 ∷ []

-- a reply: one byte
abbrev pub reply_code : Reply → ℕ
reply_code Done = 0
reply_code Replaced = 1
reply_code Missing = 2
reply_code WrongKind = 3
reply_code Ignored = 4

-- a start: one byte
abbrev pub start_code : Start → ℕ
start_code start.Up = 0
start_code start.Unknown = 1

-- a rule: one byte for its kind, then a threshold's fall and rise in four bytes each and its start, or a mask in two bytes
abbrev pub rule_bytes : Rule → List ℕ
rule_bytes (Threshold fall rise start) = 0 ∷ to_le_bytes w32 fall ++ to_le_bytes w32 rise ++ start_code start ∷ []
rule_bytes Manual = 1 ∷ []
rule_bytes (Depends mask) = 2 ∷ to_le_bytes w16 mask

-- a call: one byte for what is asked, then its slot in one byte, if it has one, and then the rule of a registration
abbrev pub call_bytes : Call → List ℕ
call_bytes (Register slot rule) = 0 ∷ slot ∷ rule_bytes rule
call_bytes (Retire slot) = 1 ∷ slot ∷ []
call_bytes (Observe slot Pass) = 2 ∷ slot ∷ []
call_bytes (Observe slot Fail) = 3 ∷ slot ∷ []
call_bytes (Set slot Up) = 4 ∷ slot ∷ []
call_bytes (Set slot Down) = 5 ∷ slot ∷ []
call_bytes Shutdown = 6 ∷ []
call_bytes Resume = 7 ∷ []

-- an entry: the microseconds in eight bytes, who asked, the seat in two bytes, the reply, the call, and nothing else
abbrev pub bytes_of : Stored → List ℕ
bytes_of stored = to_le_bytes w64 stored.micros ++ who_bytes stored.who ++ to_le_bytes w16 stored.entry.seat ++ reply_code stored.entry.reply ∷ [] ++ call_bytes stored.entry.call
