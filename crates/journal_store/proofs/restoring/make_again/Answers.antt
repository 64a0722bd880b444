use Rattle.std.proofs.Common.{arith, ◌≡◌, ◌≢◌, Err, ap}
use Rattle.std.proofs.lemmas.Grind.{common_steps}
use Rattle.journal_store.proofs.RestoreLemmas.{made, legal, another, unlawful, impossible}
use Rattle.journal_store.proofs.restoring.make_again.Goals as goal

pub returns-in-Ok-clause-made : goal.returns-in-Ok-clause-made
returns-in-Ok-clause-made g c = λ is.
    let same : c.in-Ok.made.reply ≡ c.args.stored.now.entry.reply = grind (arith, common_steps, is, c.eq.ensures) in
    made c.args.desk.now.max_entries c.args.desk.now.journal c.change.new.self.journal c.args.stored.now c.in-Ok.made.reply c.in-Ok.ensures.answered.answer same

pub returns-in-Ok-clause-legal : goal.returns-in-Ok-clause-legal
returns-in-Ok-clause-legal g c = λ is.
    let same : c.in-Ok.made.reply ≡ c.args.stored.now.entry.reply = grind (arith, common_steps, is, c.eq.ensures) in
    legal c.args.desk.now.max_entries c.args.desk.now.journal c.change.new.self.journal c.args.stored.now c.in-Ok.made.reply c.in-Ok.ensures.answered.answer same

pub returns-in-Ok-clause-illegal : goal.returns-in-Ok-clause-illegal
returns-in-Ok-clause-illegal g c = λ is.
    let other : c.in-Ok.made.reply ≢ c.args.stored.now.entry.reply = grind (arith, common_steps, is, c.eq.ensures) in
    another c.args.desk.now.max_entries c.args.desk.now.journal c.change.new.self.journal c.args.stored.now c.in-Ok.made.reply c.in-Ok.ensures.answered.answer other

pub returns-in-BadRule-clause-illegal : goal.returns-in-BadRule-clause-illegal
returns-in-BadRule-clause-illegal g c = λ is.
    unlawful c.args.desk.now.max_entries c.args.desk.now.journal c.change.new.self.journal c.args.stored.now c.in-Err.refusal c.in-BadRule.is c.in-Err.ensures.answered.answer

pub unreachable-requires : goal.unreachable-requires
unreachable-requires g c =
    impossible c.args.desk.now.max_entries c.args.desk.now.journal c.change.new.self.journal c.args.stored.now c.in-Err.refusal c.requires.room
    (λ is. c.in-Err.ensures.answered.stored.unstored c.requires.unstored (ap (λ r. Err r) is)) c.in-Err.ensures.answered.answer c.in-Full.is
