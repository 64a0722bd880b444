use Rattle.std.proofs.Common.{ap, sym, refl, ◌∙◌}
use Rattle.plain.specs.Target.{Status}
use Rattle.std.proofs.lemmas.List.{take_rest}
use Rattle.plain.proofs.TargetLemmas.{here, behind}
use Rattle.plain.proofs.target.target_at.Goals as goal

pub returns-then-eq : goal.returns-then-eq
returns-then-eq c = here _ _ _ (sym c.eq.ensures ∙ c.if-eq.true)

pub returns-then-eq-2 : goal.returns-then-eq-2
returns-then-eq-2 c = behind _ _ _ _ (sym c.eq.ensures ∙ c.if-eq.false) (here _ _ _ (sym c.eq-else-eq.ensures ∙ c.if-eq-2.true))

pub returns-then-eq-3 : goal.returns-then-eq-3
returns-then-eq-3 c =
    behind _ _ _ _ (sym c.eq.ensures ∙ c.if-eq.false)
    (behind _ _ _ _ (sym c.eq-else-eq.ensures ∙ c.if-eq-2.false) (here _ _ _ (sym c.eq-else-eq-2.ensures ∙ c.if-eq-3.true)))

pub returns-then-eq-4 : goal.returns-then-eq-4
returns-then-eq-4 c =
    behind _ _ _ _ (sym c.eq.ensures ∙ c.if-eq.false)
    (behind _ _ _ _ (sym c.eq-else-eq.ensures ∙ c.if-eq-2.false)
    (behind _ _ _ _ (sym c.eq-else-eq-2.ensures ∙ c.if-eq-3.false) (here _ _ _ (sym c.eq-else-eq-3.ensures ∙ c.if-eq-4.true))))

pub returns-then-is_call : goal.returns-then-is_call
returns-then-is_call c =
    behind _ _ _ _ (sym c.eq.ensures ∙ c.if-eq.false)
    (behind _ _ _ _ (sym c.eq-else-eq.ensures ∙ c.if-eq-2.false)
    (behind _ _ _ _ (sym c.eq-else-eq-2.ensures ∙ c.if-eq-3.false)
    (behind _ _ _ _ (sym c.eq-else-eq-3.ensures ∙ c.if-eq-4.false) (here _ _ _ (sym c.is_call.ensures ∙ c.if-is_call.true)))))

pub returns-then-is_status : goal.returns-then-is_status
returns-then-is_status c =
    behind _ _ _ _ (sym c.eq.ensures ∙ c.if-eq.false)
    (behind _ _ _ _ (sym c.eq-else-eq.ensures ∙ c.if-eq-2.false)
    (behind _ _ _ _ (sym c.eq-else-eq-2.ensures ∙ c.if-eq-3.false)
    (behind _ _ _ _ (sym c.eq-else-eq-3.ensures ∙ c.if-eq-4.false)
    (behind _ _ _ _ (sym c.is_call.ensures ∙ c.if-is_call.false)
    (ap Status (take_rest c.args.path.now 8) ∙ here _ _ _ (sym c.is_status.ensures.value ∙ c.if-is_status.true))))))

pub returns-else-is_status : goal.returns-else-is_status
returns-else-is_status c =
    behind _ _ _ _ (sym c.eq.ensures ∙ c.if-eq.false)
    (behind _ _ _ _ (sym c.eq-else-eq.ensures ∙ c.if-eq-2.false)
    (behind _ _ _ _ (sym c.eq-else-eq-2.ensures ∙ c.if-eq-3.false)
    (behind _ _ _ _ (sym c.eq-else-eq-3.ensures ∙ c.if-eq-4.false)
    (behind _ _ _ _ (sym c.is_call.ensures ∙ c.if-is_call.false)
    (behind _ _ _ _ (sym c.is_status.ensures.value ∙ c.if-is_status.false) refl)))))
