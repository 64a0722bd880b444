use Rattle.std.proofs.Common.{ℕ, List, ap, ◌∙◌}
use Rattle.control.specs.Session.{SessionState, behind_line, with_unread}
use Rattle.control.proofs.LineLemmas.{drop_line}
use Rattle.control.proofs.session.Session.drop_line.Goals as goal

pub returns : goal.returns
returns c =
    let left = c.drop-drain.ensures.items ∙ (c.drain.ensures.kept
    ∙ drop_line c.self.inside.unread.items c.len.result c.min-end.result (c.len.ensures ∙ c.self.inside.unread.ok.0)
    (rw (c.line_len-len.ensures.value, c.deref.ensures.value) at c.min-end.ensures)) in
    ap (λ (bytes : List ℕ). record { unread = bytes; waiting = c.self.inside.waiting.items; is_over = c.self.inside.is_over; has_ended = c.self.inside.has_ended }) left
    ∙ ap (λ (session : SessionState). with_unread (behind_line session.unread) session) c.self.view_is
