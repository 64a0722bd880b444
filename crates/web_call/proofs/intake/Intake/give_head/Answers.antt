use Rattle.std.proofs.Common.{◌≡◌, ◌++◌, ap, sym, subst, ◌∙◌, append_assoc, arith, rules}
use Rattle.std.proofs.lemmas.List.{take_more}
use Rattle.web_call.specs.declared.intake.Reading.TheVariants.{Head}
use Rattle.web_call.specs.Intake.{HasRead}
use Rattle.web_call.specs.Reading.{head_wanted}
use Rattle.web_call.proofs.intake.Intake.give_head.Goals as goal

pub loop-taken-preserved : goal.loop-taken-preserved
loop-taken-preserved c =
    let before = c.loop-taken.invariant in
    let more = take_more c.args.bytes.now c.loop-taken.taken 0 c.loop-taken-test.true in
    let reads : c.loop-taken.self.reading ≡ Head = search rules in record {
      within = search rules;
      read = λ received had.
          subst (λ all. HasRead c.push.new.self all) (append_assoc received _ _ ∙ ap (λ bytes. received ++ bytes) (sym more)) (c.push.ensures.read _ (before.read received had));
      owes = omega (arith, before.owes, c.push.ensures.owes);
      first = λ none. absurd (omega (arith, none));
      closed = λ none. absurd (omega (arith, none, ap head_wanted reads, ap (λ intake. head_wanted intake.reading) (before.first (before.closed none))));
    }
