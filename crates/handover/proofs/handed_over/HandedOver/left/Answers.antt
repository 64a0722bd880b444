use Rattle.std.proofs.Common.{◌-◌}
use Rattle.std.proofs.lemmas.List.FromFn.{length-range_with_len}
use Rattle.handover.proofs.handed_over.HandedOver.left.Goals as goal

pub returns : goal.returns
returns c = let handed = c.self.inside in cc (length-range_with_len handed.next (handed.end - handed.next), c.self.view_is)
