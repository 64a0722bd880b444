use Rattle.std.proofs.Common.{ap, ◌∙◌}
use Rattle.control.specs.Session.{SessionState, first_line}
use Rattle.control.proofs.LineLemmas.{take_line}
use Rattle.control.proofs.session.Session.first_line.Goals as goal

pub returns-clause-value : goal.returns-clause-value
returns-clause-value c =
    rw (c.line_len-len.ensures.value, c.deref.ensures.value, c.deref-2.ensures.value)
    (take_line c.self.inside.unread.items ∙ ap (λ (session : SessionState). first_line session.unread) c.self.view_is)
