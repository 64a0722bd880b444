use Rattle.std.proofs.Common.{◌<◌, arith}
use Rattle.handover.proofs.RangeLemmas.{range_first}
use Rattle.handover.proofs.handed_over.HandedOver.take_descriptor.Goals as goal

pub returns-clause-taken : goal.returns-clause-taken
returns-clause-taken c =
    let handed = c.self.inside in
    let some : handed.next < handed.end = omega arith in
    cc (range_first handed.next handed.end some, c.self.view_is)
