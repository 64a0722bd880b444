use Rattle.web_call.proofs.IntakeLemmas.{head_grows}
use Rattle.web_call.proofs.intake.Intake.push.Goals as goal

pub returns-clause-read : goal.returns-clause-read
returns-clause-read c = λ received had.
    head_grows c.args.self.now _ received c.args.byte c.requires c.push_reserved.ensures.items (rw c.deref.ensures.value at c.after_head-self.ensures.read) c.after_head-self.ensures.empty had
