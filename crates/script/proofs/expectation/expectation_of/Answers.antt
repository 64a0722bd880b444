use Rattle.std.proofs.lemmas.Result.{IfOk-from_err}
use Rattle.script.specs.Expectation.IsExpectation.{ExpectLine}
use Rattle.script.proofs.WordLemmas.{first_of_three}
use Rattle.script.proofs.expectation.expectation_of.Goals as goal

pub returns-in_ok-name-in-Some : goal.returns-in_ok-name-in-Some
returns-in_ok-name-in-Some c =
    rw (first_of_three c.args.words.now _ _ c.in-expect.len_at_least c.in-expect.len_below c.in-expect.is-expect, c.in_ok-name-in-Some.ensures) (ExpectLine _ _ _ c.in-Some.ensures)

pub returns-in_err-name-in-Some : goal.returns-in_err-name-in-Some
returns-in_err-name-in-Some c = IfOk-from_err _ _ c.from_residual.ensures.0
