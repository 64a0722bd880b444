use Rattle.std.proofs.Common.{arith}
use Rattle.hall.proofs.Turns.{looks}
use Rattle.hall.proofs.gate.look.Goals as goal

pub load-requires : goal.load-requires
load-requires g c =
    let shared = c.args.shared.now in
    let place = c.args.place.now in
    (c.requires.table.1, omega (arith, c.requires.table.0), looks shared.key shared.table_id.slots place.id place.me)
