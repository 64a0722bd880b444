use Rattle.reactor.specs.Table.{place_at}
use Rattle.live_server.specs.Loop.{held_by}
use Rattle.live_server.proofs.StandingLemmas.{each_stands}
use Rattle.live_server.proofs.laws.connections_stand.Goals as goal

pub returns : goal.returns
returns g c key = each_stands (place_at (held_by c.args.server.now) key)
