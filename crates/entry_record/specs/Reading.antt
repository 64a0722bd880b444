-- Reading from left to right: each value with the bytes behind it. Only the readers' own contracts speak of this; what a whole reading
-- gives is said by `bytes_of` alone.
use Rattle.std.specs.Prelude.{◌≡◌, ℕ, List, [], ◌∷◌, length, take, drop, Option, Some, None, nat_lt, ◌==◌, if◌then◌else◌}
use Rattle.std.specs.Int.{Width, w16, w32, w64, byte_len, from_le_bytes}
use Rattle.chronicle.specs.declared.who.Who.{Who}
use Rattle.chronicle.specs.declared.who.Who.TheVariants.{Setup, Session, Expiry}
use Rattle.probe_core.specs.declared.rule.Rule.{Rule}
use Rattle.probe_core.specs.declared.rule.Rule.TheVariants.{Threshold, Manual, Depends}
use Rattle.probe_core.specs.declared.start.Start.{Start}
use Rattle.probe_core.specs.declared.start.Start.TheVariants as start
use Rattle.desk_core.specs.declared.call.Finding.TheVariants.{Pass, Fail}
use Rattle.desk_core.specs.declared.call.Setting.TheVariants.{Up, Down}
use Rattle.desk_core.specs.declared.call.Call.{Call}
use Rattle.desk_core.specs.declared.call.Call.TheVariants.{Register, Retire, Observe, Set, Shutdown, Resume}
use Rattle.desk_core.specs.declared.reply.Reply.{Reply}
use Rattle.desk_core.specs.declared.reply.Reply.TheVariants.{Done, Replaced, Missing, WrongKind, Ignored}
use Rattle.entry_record.specs.declared.stored.Stored.{Stored}

infixl 10 ◌>>=◌
abbrev pub ◌>>=◌ : {A B : Type 0} → Option A → (A → Option B) → Option B
(Some x) >>= f = f x
None >>= f = None

-- What a function returned, seen by view, is what reading gives.
abbrev pub Gives : {X Y : Type 0} → (X → Y) → Option X → Option Y → Type 0
Gives view (Some x) read = read ≡ Some (view x)
Gives view None read = read ≡ None

abbrev pub byte_at : List ℕ → Option (ℕ × List ℕ)
byte_at [] = None
byte_at (byte ∷ rest) = Some (byte, rest)

abbrev pub number_at : Width → List ℕ → Option (ℕ × List ℕ)
number_at w bytes = if nat_lt (length bytes) (byte_len w) then None else Some (from_le_bytes w (take (byte_len w) bytes), drop (byte_len w) bytes)

unfoldable pub who_at : List ℕ → Option (Who × List ℕ)
who_at [] = None
who_at (code ∷ rest) =
    if code == 0 then Some (Setup, rest)
    else if code == 1 then (number_at w32 rest >>= λ number. Some (Session number.0, number.1))
    else if code == 2 then Some (Expiry, rest)
    else None

unfoldable pub reply_of : ℕ → Option Reply
reply_of code =
    if code == 0 then Some Done
    else if code == 1 then Some Replaced
    else if code == 2 then Some Missing
    else if code == 3 then Some WrongKind
    else if code == 4 then Some Ignored
    else None

unfoldable pub start_of : ℕ → Option Start
start_of code = if code == 0 then Some start.Up else if code == 1 then Some start.Unknown else None

unfoldable pub threshold_at : List ℕ → Option (Rule × List ℕ)
threshold_at bytes = do
  fall ← number_at w32 bytes
  rise ← number_at w32 fall.1
  code ← byte_at rise.1
  start ← start_of code.0
  Some (Threshold fall.0 rise.0 start, code.1)

unfoldable pub rule_at : List ℕ → Option (Rule × List ℕ)
rule_at [] = None
rule_at (code ∷ rest) =
    if code == 0 then threshold_at rest
    else if code == 1 then Some (Manual, rest)
    else if code == 2 then (number_at w16 rest >>= λ mask. Some (Depends mask.0, mask.1))
    else None

-- a call that concerns a slot, behind its code
unfoldable pub slot_call_at : ℕ → List ℕ → Option (Call × List ℕ)
slot_call_at code [] = None
slot_call_at code (slot ∷ rest) =
    if nat_lt slot 16 then
    (if code == 0 then (rule_at rest >>= λ rule. Some (Register slot rule.0, rule.1))
    else if code == 1 then Some (Retire slot, rest)
    else if code == 2 then Some (Observe slot Pass, rest)
    else if code == 3 then Some (Observe slot Fail, rest)
    else if code == 4 then Some (Set slot Up, rest)
    else if code == 5 then Some (Set slot Down, rest)
    else None)
    else None

unfoldable pub call_at : List ℕ → Option (Call × List ℕ)
call_at [] = None
call_at (code ∷ rest) =
    if code == 6 then Some (Shutdown, rest)
    else if code == 7 then Some (Resume, rest)
    else slot_call_at code rest

-- the call at the end, which takes all of the bytes
unfoldable pub last_call_of : List ℕ → Option Call
last_call_of bytes = call_at bytes >>= λ call. if length call.1 == 0 then Some call.0 else None

unfoldable pub stored_of : List ℕ → Option Stored
stored_of bytes = do
  micros ← number_at w64 bytes
  who ← who_at micros.1
  seat ← number_at w16 who.1
  code ← byte_at seat.1
  reply ← reply_of code.0
  call ← last_call_of code.1
  Some (record { entry = record { seat = seat.0; call = call; reply = reply }; micros = micros.0; who = who.0 })
