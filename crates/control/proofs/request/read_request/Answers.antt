use Rattle.control.specs.Request.IsRequest.{OfLine, OfExpectation, OfQuestion, OfWord}
use Rattle.control.proofs.request.read_request.Goals as goal

pub returns-in-Some : goal.returns-in-Some
returns-in-Some c = OfWord _ _ (rw c.in-Some.is at c.read_word.ensures)

pub returns-in-Some-2 : goal.returns-in-Some-2
returns-in-Some-2 c = OfExpectation _ _ (rw c.in-Some-2.is at c.in_ok-expectation.ensures)

pub returns-in-Some-3 : goal.returns-in-Some-3
returns-in-Some-3 c = OfQuestion _ _ (rw c.in-Some-3.is at c.in_ok-question.ensures)

pub returns-in-Some-4 : goal.returns-in-Some-4
returns-in-Some-4 c = OfLine _ _ (rw c.in-Some-4.is at c.in_ok-line.ensures)
