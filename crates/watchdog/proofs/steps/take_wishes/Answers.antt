use Rattle.std.proofs.Common.{rules, ◌≡◌, ◌<◌, refl, length, subst, sym, vec_len}
use Rattle.std.specs.Prelude.{Vec}
use Rattle.std.specs.Global.{Global}
use Rattle.watchdog.specs.Guard.{GuardState}
use Rattle.watchdog.specs.Watching.{HaveWished, NoWish}
use Rattle.watchdog.proofs.StepLemmas.{wished_more}
use Rattle.watchdog.proofs.steps.take_wishes.Goals as goal
use Rattle.watchdog.proofs.steps.take_wishes.Goals.{in-Some, in_default}

-- what the loop keeps
abbrev AreWished : Vec GuardState Global → Vec GuardState Global → Type 0
AreWished old new = (vec_len new ≡ vec_len old) × HaveWished old.items new.items

pub loop-place-init : goal.loop-place-init
loop-place-init c = (refl, NoWish c.args.guards.now.items)

pub loop-place-preserved : goal.loop-place-preserved
loop-place-preserved c =
    let below : c.loop-place.place < length c.loop-place.guards.items = search rules in
    elim c.match-take.branch [
      | in-Some w ↦ subst (AreWished c.args.guards.now) (sym w.guards-is) (
        c.loop-place.invariant.0,
        wished_more c.args.guards.now.items c.loop-place.guards.items c.loop-place.place w.in-Some.wish w.index_mut.result.now w.wish.new.self
            c.loop-place.invariant.1 below w.index_mut.ensures.value w.wish.ensures,
      )
      | in_default w ↦ subst (AreWished c.args.guards.now) (sym w.guards-is) c.loop-place.invariant
    ]
