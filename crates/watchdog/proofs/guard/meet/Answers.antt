use Rattle.std.proofs.Common.{ap, sym, ◌∙◌, take}
use Rattle.watchdog.specs.Guard.{met_by, met_in}
use Rattle.watchdog.proofs.MetLemmas.{met_more}
use Rattle.watchdog.proofs.guard.meet.Goals as goal

pub loop-entry-preserved : goal.loop-entry-preserved
loop-entry-preserved c =
    let before = met_in c.args.seat c.args.slot c.args.now (take c.loop-entry.entry-index c.args.entries.now) c.args.timer.now in
    c.meet_one.ensures
    ∙ (ap (met_by c.args.seat c.args.slot c.args.now c.entry-item.result) c.loop-entry.invariant
    ∙ (ap (λ entry. met_by c.args.seat c.args.slot c.args.now entry before) c.entry-item.is
    ∙ sym (met_more c.args.seat c.args.slot c.args.now c.args.entries.now c.loop-entry.entry-index c.entry-item.result c.args.timer.now c.loop-entry-test.true)))
