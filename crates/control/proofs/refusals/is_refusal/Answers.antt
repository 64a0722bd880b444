use Rattle.std.proofs.Common.{inl, inr, refl}
use Rattle.control.proofs.RefusalLemmas.{is_found, is_no_text, is_text, one_of_seven}
use Rattle.control.proofs.refusals.is_refusal.Goals as goal

pub returns-then-eq : goal.returns-then-eq
returns-then-eq c = (λ _. inl (is_text c.args.answer.now c.as_slice.result.now _ c.eq.result c.eq.ensures c.as_slice.ensures c.if-eq.true), λ _. refl)

pub returns-then-eq-2 : goal.returns-then-eq-2
returns-then-eq-2 c = (λ _. inr (inl (is_text c.args.answer.now c.as_slice-2.result.now _ c.eq-2.result c.eq-2.ensures c.as_slice-2.ensures c.if-eq-2.true)), λ _. refl)

pub returns-then-eq-3 : goal.returns-then-eq-3
returns-then-eq-3 c = (λ _. inr (inr (inl (is_text c.args.answer.now c.as_slice-3.result.now _ c.eq-3.result c.eq-3.ensures c.as_slice-3.ensures c.if-eq-3.true))), λ _. refl)

pub returns-then-eq-4 : goal.returns-then-eq-4
returns-then-eq-4 c = (λ _. inr (inr (inr (inl (is_text c.args.answer.now c.as_slice-4.result.now _ c.eq-4.result c.eq-4.ensures c.as_slice-4.ensures c.if-eq-4.true)))), λ _. refl)

pub returns-then-eq-5 : goal.returns-then-eq-5
returns-then-eq-5 c = (λ _. inr (inr (inr (inr (inl (is_text c.args.answer.now c.as_slice-5.result.now _ c.eq-5.result c.eq-5.ensures c.as_slice-5.ensures c.if-eq-5.true))))), λ _. refl)

pub returns-then-eq-6 : goal.returns-then-eq-6
returns-then-eq-6 c = (λ _. inr (inr (inr (inr (inr (inl (is_text c.args.answer.now c.as_slice-6.result.now _ c.eq-6.result c.eq-6.ensures c.as_slice-6.ensures c.if-eq-6.true)))))), λ _. refl)

pub returns : goal.returns
returns c = (
  λ last. inr (inr (inr (inr (inr (inr (is_text c.args.answer.now c.as_slice-7.result.now _ c.eq-7.result c.eq-7.ensures c.as_slice-7.ensures last)))))),
  one_of_seven
      (is_no_text c.args.answer.now c.as_slice.result.now _ c.eq.result c.eq.ensures c.as_slice.ensures c.if-eq.false)
      (is_no_text c.args.answer.now c.as_slice-2.result.now _ c.eq-2.result c.eq-2.ensures c.as_slice-2.ensures c.if-eq-2.false)
      (is_no_text c.args.answer.now c.as_slice-3.result.now _ c.eq-3.result c.eq-3.ensures c.as_slice-3.ensures c.if-eq-3.false)
      (is_no_text c.args.answer.now c.as_slice-4.result.now _ c.eq-4.result c.eq-4.ensures c.as_slice-4.ensures c.if-eq-4.false)
      (is_no_text c.args.answer.now c.as_slice-5.result.now _ c.eq-5.result c.eq-5.ensures c.as_slice-5.ensures c.if-eq-5.false)
      (is_no_text c.args.answer.now c.as_slice-6.result.now _ c.eq-6.result c.eq-6.ensures c.as_slice-6.ensures c.if-eq-6.false)
      (is_found c.args.answer.now c.as_slice-7.result.now _ c.eq-7.result c.eq-7.ensures c.as_slice-7.ensures),
)
