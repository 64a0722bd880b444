use Rattle.script.proofs.ComplaintLemmas.{behind_first, of_first}
use Rattle.script.proofs.complaint.line_complaint.Goals as goal

pub returns-in-register : goal.returns-in-register
returns-in-register c = behind_first _ _ _ c.in-len1-up.len_at_least c.register_complaint.ensures

pub returns-in-max : goal.returns-in-max
returns-in-max c = behind_first _ _ _ c.in-len1-up.len_at_least (c.max_complaint.ensures _)

pub returns-in_default-first : goal.returns-in_default-first
returns-in_default-first c = of_first _ _ _ _ c.in-len1-up.len_at_least c.word_complaint.ensures
