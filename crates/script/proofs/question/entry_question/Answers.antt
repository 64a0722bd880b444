use Rattle.script.specs.Question.IsQuestion.{EntryLine}
use Rattle.script.proofs.question.entry_question.Goals as goal

pub returns : goal.returns
returns c = EntryLine _ _ c.in_ok-number_of.ensures
