use Rattle.std.proofs.Common.{rules, ◌<◌, length}
use Rattle.script.proofs.ComplaintLemmas.{at_place}
use Rattle.script.proofs.complaint.threshold_complaint.Goals as goal

pub returns-in-len2 : goal.returns-in-len2
returns-in-len2 c =
    let some : 1 < length c.args.words.now = search rules in
    λ names. (at_place c.args.words.now 1 _ some, search rules)
