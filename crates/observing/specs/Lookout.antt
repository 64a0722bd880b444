-- The looks at one target.
use Rattle.std.specs.Prelude.{ℕ, ◌≡◌, ◌+◌, ◌*◌, ◌<◌, ◌≤◌, true, if◌then◌else◌, [], Option}
use Rattle.observing.specs.Look.{bytes_of, ends_of, kind_of, looks_in, reports_in, stage_of, until_of as stage_until}
use Rattle.observing.specs.Stage.{is_over}
use Rattle.observing.specs.Timetable.{next_of, period_of}
use Rattle.observing.specs.declared.look.Look.{Look}
use Rattle.observing.specs.declared.lookout.Lookout.{Lookout}
use Rattle.observing.specs.declared.stage.Stage.TheVariants.{Naming}
use Rattle.observing.specs.declared.verdict.Verdict.{Verdict}
use Rattle.observing.specs.declared.timetable.Timetable.{Timetable}

-- the newest look
abbrev pub look_of : Lookout → Look
look_of lookout = lookout.look

-- its number
abbrev pub number_of : Lookout → ℕ
number_of lookout = lookout.number

-- when the next one is due
abbrev pub timetable_of : Lookout → Timetable
timetable_of lookout = lookout.timetable

-- how many milliseconds a look may take
abbrev pub limit_of : Lookout → ℕ
limit_of lookout = lookout.limit

-- the reading at which it wants to be asked again: when the next look is due, or when time passes for the one in course
abbrev pub until_of : Lookout → ℕ
until_of lookout =
    if is_over lookout.look.stage then next_of lookout.timetable else stage_until lookout.look.stage lookout.look.ends

-- no look is in course
abbrev pub IsIdle : Lookout → Type 0
IsIdle lookout = is_over lookout.look.stage ≡ true

-- a look has begun at this reading, with its whole limit; the next is due after it, at the target's own place in a later period
pub record HasBegun (old : Lookout) (now : ℕ) (new : Lookout) : Type 0 where
  pub stage : stage_of new.look ≡ Naming
  pub bytes : bytes_of new.look ≡ []
  pub kind : kind_of new.look ≡ old.kind
  pub ends : ends_of new.look ≡ now + old.limit
  pub later : now < next_of new.timetable
  pub soon : next_of new.timetable ≤ now + period_of old.timetable
  pub spread : (periods : ℕ) × (next_of new.timetable ≡ next_of old.timetable + periods * period_of old.timetable)
  pub terms : (new.kind ≡ old.kind) × (new.limit ≡ old.limit) × (period_of new.timetable ≡ period_of old.timetable)

-- over a while so many looks began, each where none was in course, and there were so many reports
pub data Runs (old : Lookout) : ℕ → ℕ → Lookout → Type 0 where
  Rests : Runs old 0 0 old
  Begins : (begun reports now : ℕ) (before new : Lookout) → Runs old begun reports before → IsIdle before → HasBegun before now new
      → Runs old (begun + 1) reports new
  Hears : (begun reports : ℕ) (before new : Lookout) (report : Option Verdict) → Runs old begun reports before
      → looks_in before.look ≡ looks_in new.look + reports_in report → Runs old begun (reports + reports_in report) new
