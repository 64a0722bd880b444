-- Why a crew has no report.
use Rattle.std.specs.Prelude.{ℕ, ◌≡◌, ◌≢◌, ◌<◌, ◌+◌, ◌==◌, nat_lt, if◌then◌else◌, Option, Some, None, List, codes}
use Rattle.crew.specs.declared.crew_why.CrewWhy.{CrewWhy}
use Rattle.crew.specs.declared.crew_why.CrewWhy.TheVariants.{NoWorkers, NoSeats, Stranger, Doubled, Lost, NoMemory}

-- why so many workers, lists of orders and seats make no crew; none where they make one
abbrev pub crew_fault : ℕ → ℕ → ℕ → Option CrewWhy
crew_fault workers lists seats = if workers == 0 then Some NoWorkers else (if nat_lt seats (workers + lists) then Some NoSeats else None)

-- the reason is no lack of workers or of seats; and a call is lost, or reported twice, only where there is one
pub record IsOtherReason (calls : ℕ) (why : CrewWhy) : Type 0 where
  pub manned : why ≢ NoWorkers
  pub seated : why ≢ NoSeats
  pub lost : why ≡ Lost → 0 < calls
  pub doubled : why ≡ Doubled → 0 < calls

-- the number of a reason
abbrev pub why_number : CrewWhy → ℕ
why_number NoWorkers = 1
why_number NoSeats = 2
why_number Stranger = 3
why_number Doubled = 4
why_number Lost = 5
why_number NoMemory = 6

-- the text of a reason
abbrev pub why_text : CrewWhy → List ℕ
why_text NoWorkers = codes "there are no workers"
why_text NoSeats = codes "there are too few seats"
why_text Stranger = codes "a report has the number of no call"
why_text Doubled = codes "a call was reported twice"
why_text Lost = codes "a call was not reported"
why_text NoMemory = codes "out of memory"
