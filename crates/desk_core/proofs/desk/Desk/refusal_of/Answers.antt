use Rattle.std.proofs.Common.{refl, sym, true≢false, ◌∙◌}
use Rattle.std.proofs.lemmas.List.{length-reverse}
use Rattle.desk_core.specs.Mutation.{BadRule, Full}
use Rattle.desk_core.proofs.LeftLemmas.{spared}
use Rattle.desk_core.proofs.LimitLemmas.{as_many_as_may, full_differs, rule_differs}
use Rattle.desk_core.proofs.desk.Desk.refusal_of.Goals as goal

pub returns-then-not-is_lawful_call-clause-some : goal.returns-then-not-is_lawful_call-clause-some
returns-then-not-is_lawful_call-clause-some g c seat =
    rw (← c.self.view_is)
    (record {
      most = refl;
      answer = BadRule c.args.call.now (λ lawful. true≢false (sym (c.is_lawful_call.ensures.1 lawful) ∙ c.if-not-is_lawful_call.true)) refl;
      stored = spared _ _ _ _ refl refl refl c.self.invariant.6 rule_differs;
    })

pub returns-then-entries-from-clause-some : goal.returns-then-entries-from-clause-some
returns-then-entries-from-clause-some g c seat =
    rw (← c.self.view_is)
    (record {
      most = refl;
      answer = Full c.args.call.now (c.is_lawful_call.ensures.0 c.if-not-is_lawful_call.false)
          (length-reverse c.self.inside.history.journal.items ∙ as_many_as_may _ _ _ _ c.if-entries-from.true c.from.ensures c.len-entries.ensures c.self.invariant.0.parts.room) refl;
      stored = spared _ _ _ _ refl refl refl c.self.invariant.6 full_differs;
    })
