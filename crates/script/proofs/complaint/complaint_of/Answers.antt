use Rattle.std.proofs.lemmas.Result.{IfOk-from_err}
use Rattle.script.specs.Complaint.IsSoOf.{WithoutWords, WithWords}
use Rattle.script.proofs.ComplaintLemmas.{no_complaint, some_complaint}
use Rattle.script.proofs.complaint.complaint_of.Goals as goal

pub returns-in-Some-clause-so : goal.returns-in-Some-clause-so
returns-in-Some-clause-so c = WithWords _ _ (rw c.in-Some.is at c.in_ok-words.ensures) (rw c.deref.ensures.value at c.line_complaint.ensures)

pub returns-in-None-clause-so : goal.returns-in-None-clause-so
returns-in-None-clause-so c = WithoutWords (rw c.in-None.is at c.in_ok-words.ensures)

pub returns-then-branch-clause-none : goal.returns-then-branch-clause-none
returns-then-branch-clause-none c = no_complaint _ c.in_ok-may_run.ensures c.if-branch.true

pub returns-in-Some-clause-none : goal.returns-in-Some-clause-none
returns-in-Some-clause-none c = some_complaint _ c.in_ok-may_run.ensures c.if-branch.false

pub returns-in_err-may_run-clause-none : goal.returns-in_err-may_run-clause-none
returns-in_err-may_run-clause-none c = IfOk-from_err _ _ c.from_residual.ensures.0

pub returns-in_err-may_run-clause-so : goal.returns-in_err-may_run-clause-so
returns-in_err-may_run-clause-so c = IfOk-from_err _ _ c.from_residual.ensures.0

pub returns-in_err-words-clause-none : goal.returns-in_err-words-clause-none
returns-in_err-words-clause-none c = IfOk-from_err _ _ c.from_residual-in_err-words.ensures.0

pub returns-in_err-words-clause-so : goal.returns-in_err-words-clause-so
returns-in_err-words-clause-so c = IfOk-from_err _ _ c.from_residual-in_err-words.ensures.0
