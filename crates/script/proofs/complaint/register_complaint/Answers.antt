use Rattle.script.proofs.ComplaintLemmas.{behind_first}
use Rattle.script.proofs.complaint.register_complaint.Goals as goal

pub returns-in-len1-up : goal.returns-in-len1-up
returns-in-len1-up c = behind_first _ _ _ c.in-len1-up.len_at_least c.rule_complaint.ensures
