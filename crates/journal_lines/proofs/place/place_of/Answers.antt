use Rattle.std.proofs.Common.{◌∙◌}
use Rattle.journal_lines.proofs.PlaceLemmas.{in_two}
use Rattle.journal_lines.proofs.place.place_of.Goals as goal

pub loop-record-init : goal.loop-record-init
loop-record-init c = c.requires.end ∙ in_two c.args.records.now c.args.number
