use Rattle.control.proofs.ForeignLemmas.{still_told}
use Rattle.control.proofs.TalkLemmas.{cut}
use Rattle.control.proofs.session.Session.answer.Goals as goal

pub returns-clause-cut : goal.returns-clause-cut
returns-clause-cut g c = cut c.args.self.now.unread c.first_line.ensures.within c.requires.line.1

pub returns-clause-met : goal.returns-clause-met
returns-clause-met g c = still_told _ (rw c.first_line.ensures.value at c.answer_line-answer.ensures.met) c.say-told.ensures.told
