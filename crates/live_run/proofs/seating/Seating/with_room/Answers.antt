use Rattle.live_run.proofs.SeatingLemmas.{parted}
use Rattle.live_run.proofs.seating.Seating.with_room.Goals as goal

pub returns : goal.returns
returns g c = parted c.args.servers.items c.args.seats.items c.in_ok-loops.field-0 (c.in_ok-control.control, c.in_ok-control.report) c.in_ok-loops.ensures c.in_ok-control.ensures
