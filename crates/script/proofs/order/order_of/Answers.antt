use Rattle.std.proofs.Common.{arith}
use Rattle.std.proofs.lemmas.Grind.{common_steps}
use Rattle.script.specs.Line.{IsOrder}
use Rattle.script.specs.Line.IsOrder.{PassOrder, FailOrder, UpOrder, DownOrder, ShutdownOrder, ResumeOrder}
use Rattle.script.proofs.LineLemmas.{read_as}
use Rattle.script.proofs.WordLemmas.{one_word, two_words}
use Rattle.script.proofs.order.order_of.Goals as goal

pub returns-in-shutdown : goal.returns-in-shutdown
returns-in-shutdown c = rw (one_word c.args.words.now _ _ c.in-shutdown.len_at_least c.in-shutdown.len_below c.in-shutdown.is-shutdown) ShutdownOrder

pub returns-in-resume : goal.returns-in-resume
returns-in-resume c = rw (one_word c.args.words.now _ _ c.in-resume.len_at_least c.in-resume.len_below c.in-resume.is-resume) ResumeOrder

pub returns-in-pass : goal.returns-in-pass
returns-in-pass c = read_as IsOrder _ _ c.observe_order.result c.observe_order.ensures (rw (two_words c.args.words.now _ _ c.in-pass.len_at_least c.in-pass.len_below c.in-pass.is-pass) (PassOrder _))

pub returns-in-fail : goal.returns-in-fail
returns-in-fail c = read_as IsOrder _ _ c.observe_order-in-fail.result c.observe_order-in-fail.ensures (rw (two_words c.args.words.now _ _ c.in-fail.len_at_least c.in-fail.len_below c.in-fail.is-fail) (FailOrder _))

pub returns-in-up : goal.returns-in-up
returns-in-up c = read_as IsOrder _ _ c.set_order.result c.set_order.ensures (rw (two_words c.args.words.now _ _ c.in-up.len_at_least c.in-up.len_below c.in-up.is-up) (UpOrder _))

pub returns-in-down : goal.returns-in-down
returns-in-down c = read_as IsOrder _ _ c.set_order-in-down.result c.set_order-in-down.ensures (rw (two_words c.args.words.now _ _ c.in-down.len_at_least c.in-down.len_below c.in-down.is-down) (DownOrder _))

pub returns-in_default : goal.returns-in_default
returns-in_default c = grind (arith, common_steps)
