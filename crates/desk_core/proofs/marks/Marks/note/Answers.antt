use Rattle.std.proofs.Common.{ℕ, rules, get_or, refl, ap, ◌∙◌, arith}
use Rattle.std.proofs.lemmas.List.{get_or_default}
use Rattle.desk_core.specs.declared.marks.Mark.{Mark}
use Rattle.desk_core.specs.Marks.{next_mark, unmarked}
use Rattle.desk_core.proofs.ElementLemmas.{next_set}
use Rattle.desk_core.proofs.marks.Marks.note.Goals as goal

pub loop-number-init : goal.loop-number-init
loop-number-init c = (c.shut_by-self.ensures, λ i other below. absurd (omega (arith, below)), λ i other past. refl)

pub loop-number-preserved : goal.loop-number-preserved
loop-number-preserved c =
    let next : ℕ → Mark → Mark = λ i mark. next_mark i c.args.call.now c.args.reply c.args.rule c.args.at mark in
    let slots = c.loop-number.self.slots in
    let both =
    next_set next _ _ c.loop-number.number _ _ (search rules) c.from-in-loop-number.ensures c.loop-number.invariant.1 c.loop-number.invariant.2
    (λ other. c.next.ensures
    ∙ ap (λ i. next i (get_or slots c.from.result unmarked)) c.at.ensures
    ∙ ap (λ k. next c.loop-number.number (get_or slots k unmarked)) c.from.ensures
    ∙ ap (next c.loop-number.number) (get_or_default slots c.loop-number.number unmarked other (search rules))) in
    (c.loop-number.invariant.0, both.0, both.1)

pub returns-clause-shut : goal.returns-clause-shut
returns-clause-shut c = c.loop-number.invariant.0

pub returns-clause-slots : goal.returns-clause-slots
returns-clause-slots c i other below = c.loop-number.invariant.1 i other (omega (arith, below))
