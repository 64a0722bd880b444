-- When a service is overdue, after all that its timer met, the newest first.
use Rattle.std.specs.Prelude.{◌≡◌, ℕ, ◌+◌, ◌*◌, ◌^◌, Bool, false, List, [], ◌∷◌, Option, Some, None, option_map, if◌then◌else◌, nat_eq, nat_le, nat_lt}
use Rattle.std.specs.Time.{instant_nanos}
use Rattle.std.specs.declared.time.Instant.{Instant}
use Rattle.watchdog.specs.declared.met.Met.{Met}
use Rattle.watchdog.specs.declared.met.Met.TheVariants.{Expected, Heard, Ended, Looked, Refused}

-- every how many seconds a report is expected, if one is: as set last, unless that is 0 or ended
abbrev pub period_of : List Met → Option ℕ
period_of [] = None
period_of (Expected at seconds ∷ past) = if nat_eq seconds 0 then None else Some seconds
period_of (Heard at ∷ past) = period_of past
period_of (Ended ∷ past) = None
period_of (Looked at ∷ past) = period_of past
period_of (Refused at ∷ past) = period_of past

-- the reading so many seconds later, in nanoseconds; none where no number is given, or where the
-- clock, which ends at 2^63 seconds, does not go so far
abbrev pub due_after : Instant → Option ℕ → Option ℕ
due_after at None = None
due_after at (Some seconds) =
    let due = instant_nanos at + seconds * 1000000000 in
    if nat_lt due (2 ^ 63 * 1000000000) then Some due else None

-- whether there is a moment from which something is due, and it has come by this reading
abbrev pub is_due : Option ℕ → ℕ → Bool
is_due None now = false
is_due (Some due) now = nat_le due now

-- from which reading on a look tells that the service is overdue, if one does: the period after it
-- was set and after each report, and a second after a refusal; from none once a look told
abbrev pub due_at : List Met → Option ℕ
due_at [] = None
due_at (Expected at seconds ∷ past) = due_after at (period_of (Expected at seconds ∷ past))
due_at (Heard at ∷ past) = due_after at (period_of past)
due_at (Ended ∷ past) = None
due_at (Looked at ∷ past) = if is_due (due_at past) (instant_nanos at) then None else due_at past
due_at (Refused at ∷ past) = due_after at (option_map (λ seconds. 1) (period_of past))

-- whether a look at this reading tells that the service is overdue
abbrev pub is_overdue : List Met → ℕ → Bool
is_overdue past now = is_due (due_at past) now

-- what a timer keeps of all that it met: the period, and from when on a look tells
pub record HasMet (period : Option ℕ) (due : Option Instant) (past : List Met) : Type 0 where
  pub kept_period : period ≡ period_of past
  pub kept_due : option_map instant_nanos due ≡ due_at past
