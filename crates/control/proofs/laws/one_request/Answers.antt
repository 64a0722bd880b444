use Rattle.control.proofs.OneRequest.{one_request}
use Rattle.control.proofs.laws.one_request.Goals as goal

pub returns : goal.returns
returns c = one_request
