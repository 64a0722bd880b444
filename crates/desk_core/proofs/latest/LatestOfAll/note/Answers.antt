use Rattle.std.proofs.Common.{ℕ, rules, get_or, ap, ◌∙◌}
use Rattle.std.proofs.lemmas.List.{get_or_default}
use Rattle.desk_core.specs.declared.latest.Latest.{Latest}
use Rattle.desk_core.specs.Latest.{next_latest, nothing_yet}
use Rattle.desk_core.proofs.ElementLemmas.{next_set}
use Rattle.desk_core.proofs.latest.LatestOfAll.note.Goals as goal

pub loop-number-preserved : goal.loop-number-preserved
loop-number-preserved c =
    let next : ℕ → Latest → Latest = λ i latest. next_latest i c.args.entry.now c.args.at c.args.before c.args.after latest in
    let slots = c.loop-number.self.slots in
    next_set next _ _ c.loop-number.number _ _ (search rules) c.from-in-loop-number.ensures c.loop-number.invariant.0 c.loop-number.invariant.1
    (λ other. c.next.ensures
    ∙ ap (λ i. next i (get_or slots c.from.result nothing_yet)) c.at-slot.ensures
    ∙ ap (λ k. next c.loop-number.number (get_or slots k nothing_yet)) c.from.ensures
    ∙ ap (next c.loop-number.number) (get_or_default slots c.loop-number.number nothing_yet other (search rules)))
