use Rattle.std.proofs.Common.{arith}
use Rattle.std.proofs.lemmas.Grind.{common_steps}
use Rattle.script.specs.Question.{IsQuestion}
use Rattle.script.specs.Question.IsQuestion.{WhyLine, StatusLine}
use Rattle.script.proofs.LineLemmas.{read_as}
use Rattle.script.proofs.WordLemmas.{two_words}
use Rattle.script.proofs.question.question_of.Goals as goal

pub returns-in-entry : goal.returns-in-entry
returns-in-entry c = rw (two_words c.args.words.now _ _ c.in-entry.len_at_least c.in-entry.len_below c.in-entry.is-entry) c.entry_question.ensures

pub returns-in-why : goal.returns-in-why
returns-in-why c =
    read_as IsQuestion _ _ c.why_question.result c.why_question.ensures (rw (two_words c.args.words.now _ _ c.in-why.len_at_least c.in-why.len_below c.in-why.is-why) (WhyLine _))

pub returns-in-status : goal.returns-in-status
returns-in-status c =
    read_as IsQuestion _ _ c.status_question.result c.status_question.ensures (rw (two_words c.args.words.now _ _ c.in-status.len_at_least c.in-status.len_below c.in-status.is-status) (StatusLine _))

pub returns-in_default : goal.returns-in_default
returns-in_default c = grind (arith, common_steps)
