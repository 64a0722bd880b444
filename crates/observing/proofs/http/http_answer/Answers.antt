use Rattle.std.proofs.Common.{refl, sym}
use Rattle.observing.specs.HttpAnswer.HttpTells.{ByLine}
use Rattle.observing.proofs.http.http_answer.Goals as goal

pub returns-in_ok-verdict-in-Some : goal.returns-in_ok-verdict-in-Some
returns-in_ok-verdict-in-Some c =
    ByLine c.in-Some.end c.in_ok-verdict-in-Some.verdict (sym c.in-Some.ensures.place) c.in_ok-verdict-in-Some.ensures refl
