use Rattle.std.proofs.Common.{◌++◌, ◌∙◌, arith}
use Rattle.reactor.proofs.ConnectionLemmas.{thrown_then}
use Rattle.reactor.proofs.connection.Connection.drain.Goals as goal

pub returns-in_default : goal.returns-in_default
returns-in_default g c =
    let before = c.loop.invariant in
    let more = c.drain_once.ensures in record {
      state = more.state ∙ before.state;
      thrown = (before.thrown.0 ++ more.thrown.0, thrown_then before.thrown.1 more.thrown.1);
      len = more.len ∙ before.len;
    }

pub loop-preserved : goal.loop-preserved
loop-preserved g c =
    let before = c.loop.invariant in
    let more = c.drain_once.ensures in record {
      state = more.state ∙ before.state;
      thrown = (before.thrown.0 ++ more.thrown.0, thrown_then before.thrown.1 more.thrown.1);
      len = more.len ∙ before.len;
      room = omega (arith, more.len, before.room);
    }
