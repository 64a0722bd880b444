use Rattle.std.proofs.Common.{◌++◌}
use Rattle.reactor.proofs.ConnectionLemmas.{thrown_from, thrown_then}
use Rattle.reactor.proofs.connection.Connection.finish.Goals as goal

pub returns-clause-thrown : goal.returns-clause-thrown
returns-clause-thrown g c =
    let before = c.may_come.ensures.thrown in
    let later = c.drain_on.ensures.thrown in
    (before.0 ++ later.0, thrown_then before.1 (thrown_from c.close.ensures.remaining c.close.ensures.contents later.1))
