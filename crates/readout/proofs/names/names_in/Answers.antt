use Rattle.std.proofs.Common.{arith}
use Rattle.std.proofs.lemmas.Grind.{common_steps}
use Rattle.std.proofs.lemmas.List.Elements.{filter_map-append}
use Rattle.readout.proofs.names.names_in.Goals as goal
use Rattle.readout.proofs.names.names_in.Goals.{in-Some+in_ok-from_str+in_ok-push, in_default}

pub loop-word-preserved : goal.loop-word-preserved
loop-word-preserved c = elim c.match-name_of.branch [ in-Some+in_ok-from_str+in_ok-push w ↦ rw w.names-is (grind (arith, common_steps, filter_map-append)) | in_default w ↦ rw w.names-is (grind (arith, common_steps, filter_map-append)) ]
