use Rattle.script.proofs.ComplaintLemmas.{behind_first}
use Rattle.script.proofs.complaint.rule_complaint.Goals as goal

pub returns-in-threshold : goal.returns-in-threshold
returns-in-threshold c = behind_first _ _ _ c.in-len1-up.len_at_least (c.threshold_complaint.ensures _)

pub returns-in-depends : goal.returns-in-depends
returns-in-depends c = behind_first _ _ _ c.in-len1-up.len_at_least c.names_complaint.ensures
