-- How many looks begin and end.
use Rattle.std.proofs.Common.{ℕ, ◌≡◌, ◌+◌, refl, arith, ap}
use Rattle.std.specs.Prelude.{if◌then◌else◌}
use Rattle.observing.specs.Look.{looks_in}
use Rattle.observing.specs.Lookout.{Runs, look_of}
use Rattle.observing.specs.Lookout.Runs.{Rests, Begins, Hears}
use Rattle.observing.specs.Stage.{is_over}
use Rattle.observing.specs.declared.lookout.Lookout.{Lookout}

-- as many looks end as begin, but for those in course at the ends of the while
pub one_report : (old new : Lookout) (begun reports : ℕ) → Runs old begun reports new → looks_in (look_of old) + begun ≡ looks_in (look_of new) + reports
one_report old new begun reports Rests = refl
one_report old new begun reports (Begins before_begun before_reports now before after runs idle began) =
    let so_far = one_report old before before_begun before_reports runs in
    let none : looks_in (look_of before) ≡ 0 = ap (λ over. if over then 0 else 1) idle in
    let one : looks_in (look_of new) ≡ 1 = ap (λ stage. if is_over stage then 0 else 1) began.stage in
    omega (arith, so_far, none, one)
one_report old new begun reports (Hears before_begun before_reports before after report runs once) =
    let so_far = one_report old before before_begun before_reports runs in omega (arith, so_far, once)
