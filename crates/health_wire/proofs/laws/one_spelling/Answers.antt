use Rattle.health_wire.proofs.RequestLemmas.{one_request_spelling}
use Rattle.health_wire.proofs.SpellingLemmas.{one_spelling}
use Rattle.health_wire.proofs.laws.one_spelling.Goals as goal

pub returns-clause-varint : goal.returns-clause-varint
returns-clause-varint c = one_spelling

pub returns-clause-request : goal.returns-clause-request
returns-clause-request c = one_request_spelling
