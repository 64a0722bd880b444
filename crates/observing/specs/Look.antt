-- What a look is, and what comes of what it is told.
use Rattle.std.specs.Prelude.{ℕ, ◌≡◌, ◌++◌, nat_le, MatchBool, if◌then◌else◌, ⊤, List, Option, Some, None}
use Rattle.observing.specs.Answer.{Tells}
use Rattle.observing.specs.Stage.{OnRefused, OnResolved, OnWaited, is_over, on_closed, on_connected}
use Rattle.observing.specs.declared.answer.Answer.{Answer}
use Rattle.observing.specs.declared.answer.Answer.TheVariants.{Open, Told}
use Rattle.observing.specs.declared.event.Event.{Event}
use Rattle.observing.specs.declared.event.Event.TheVariants.{Resolved, Connected, Refused, Came, Closed, Waited}
use Rattle.observing.specs.declared.kind.Kind.{Kind}
use Rattle.observing.specs.declared.look.Look.{Look}
use Rattle.observing.specs.declared.stage.Stage.{Stage}
use Rattle.observing.specs.declared.stage.Stage.TheVariants.{Naming, Dialling, Reading, Over}
use Rattle.observing.specs.declared.stage.Step.{Step}
use Rattle.observing.specs.declared.stage.Step.TheVariants.{Stays, Goes, Reports}
use Rattle.observing.specs.declared.verdict.Verdict.{Verdict}
use Rattle.observing.specs.declared.verdict.Verdict.TheVariants.{Fail}
use Rattle.observing.specs.declared.verdict.Why.TheVariants.{Late}

-- how its target is asked
abbrev pub kind_of : Look → Kind
kind_of look = look.kind

-- the reading at which it ends at the latest
abbrev pub ends_of : Look → ℕ
ends_of look = look.ends

-- how far it is
abbrev pub stage_of : Look → Stage
stage_of look = look.stage

-- the bytes that came over its connection
abbrev pub bytes_of : Look → List ℕ
bytes_of look = look.bytes.items

-- the reading until which its stage has time
abbrev pub until_of : Stage → ℕ → ℕ
until_of Naming ends = ends
until_of (Dialling dial) ends = dial.until
until_of Reading ends = ends
until_of Over ends = ends

-- what comes of an answer
abbrev pub step_on : Answer → Step
step_on Open = Stays
step_on (Told verdict) = Reports verdict

-- bytes count where they are read: together with those that came before, they tell an answer, or nothing yet
abbrev pub OnCame : Stage → Kind → (before bytes : List ℕ) → Step → Type 0
OnCame Naming kind before bytes step = step ≡ Stays
OnCame (Dialling dial) kind before bytes step = step ≡ Stays
OnCame Reading kind before bytes step = (answer : Answer) × Tells kind (before ++ bytes) answer × (step ≡ step_on answer)
OnCame Over kind before bytes step = step ≡ Stays

-- what comes of an event in time
abbrev pub MeetsInTime : Look → ℕ → Event → Step → Type 0
MeetsInTime look at (Resolved count) step = OnResolved look.stage look.ends at count step
MeetsInTime look at Connected step = step ≡ on_connected look.stage look.kind
MeetsInTime look at Refused step = OnRefused look.stage look.ends at step
MeetsInTime look at (Came bytes) step = OnCame look.stage look.kind look.bytes.items bytes.now step
MeetsInTime look at Closed step = step ≡ on_closed look.stage
MeetsInTime look at Waited step = OnWaited look.stage look.ends at step

-- nothing comes of what a look is told that has ended; and at its limit it is late, whatever it is told
abbrev pub Meets : Look → ℕ → Event → Step → Type 0
Meets look at event step =
    MatchBool (is_over look.stage) (step ≡ Stays)
    (MatchBool (nat_le look.ends at) (step ≡ Reports (Fail Late)) (MeetsInTime look at event step))

-- what is reported
abbrev pub report_of : Step → Option Verdict
report_of Stays = None
report_of (Goes stage) = None
report_of (Reports verdict) = Some verdict

-- how many reports that is
abbrev pub reports_in : Option Verdict → ℕ
reports_in None = 0
reports_in (Some verdict) = 1

-- how many looks are in course: none once it has ended
abbrev pub looks_in : Look → ℕ
looks_in look = if is_over look.stage then 0 else 1

-- how far the look is then
abbrev pub stage_after : Stage → Step → Stage
stage_after stage Stays = stage
stage_after stage (Goes next) = next
stage_after stage (Reports verdict) = Over

-- the bytes that came, with those of an event that are read
abbrev pub bytes_with : Stage → List ℕ → Event → List ℕ
bytes_with Reading before (Came bytes) = before ++ bytes.now
bytes_with _ before _ = before

-- one fact where the look ends, another where it goes on
abbrev pub MatchReport : Step → Type 0 → Type 0 → Type 0
MatchReport Stays P Q = Q
MatchReport (Goes next) P Q = Q
MatchReport (Reports verdict) P Q = P

-- one fact where more has to come, another where an answer is told
abbrev pub MatchAnswer : Answer → Type 0 → Type 0 → Type 0
MatchAnswer Open P Q = P
MatchAnswer (Told verdict) P Q = Q

-- a look that goes on has the bytes of the event too
abbrev pub HasBytes : Look → Event → Step → Look → Type 0
HasBytes old event step new = MatchReport step ⊤ (new.bytes.items ≡ bytes_with old.stage old.bytes.items event)

-- how the target is asked, and the limit, stay
pub record IsKept (old new : Look) : Type 0 where
  pub kind : new.kind ≡ old.kind
  pub ends : new.ends ≡ old.ends

-- a look was told an event at this reading: by what comes of it there is this report, or none
pub record HasHeard (old : Look) (at : ℕ) (event : Event) (report : Option Verdict) (new : Look) : Type 0 where
  pub step : Step
  pub meets : Meets old at event step
  pub reported : report ≡ report_of step
  pub stage : new.stage ≡ stage_after old.stage step
  pub bytes : HasBytes old event step new
  pub kept : IsKept old new
