use Rattle.std.proofs.Common.{ap, arith, refl, sym, ◌∙◌}
use Rattle.control.specs.declared.session_terms.SessionTerms.{SessionTerms}
use Rattle.control.specs.Rights.{unknown_line}
use Rattle.control.specs.Meeting.IsLineMet.{IsTooLong, IsSkipped, IsNoText, IsNoRequest, IsUnread}
use Rattle.control.proofs.BesideLemmas.{met_beside}
use Rattle.control.proofs.MeetingLemmas.{met_or_denied}
use Rattle.control.proofs.TextLemmas.{found_empty, found_some}
use Rattle.control.proofs.meeting.meet_text.Goals as goal

pub returns-then-line-gt-MAX_LINE-clause-met : goal.returns-then-line-gt-MAX_LINE-clause-met
returns-then-line-gt-MAX_LINE-clause-met g c = IsTooLong (omega arith) refl

pub returns-then-is_empty-clause-met : goal.returns-then-is_empty-clause-met
returns-then-is_empty-clause-met g c =
    IsSkipped (omega arith) (sym (rw c.in-Ok.ensures.cases.0 at c.without_cr-content.ensures) ∙ found_empty _ _ c.is_empty.ensures c.if-is_empty.true) refl

pub returns-in_default-clause-met : goal.returns-in_default-clause-met
returns-in_default-clause-met g c = IsNoText (omega arith) c.in_default.ensures.cases.0 _ (c.unknown_line.ensures ∙ ap (λ (t : SessionTerms). unknown_line t.place.rights) c.terms.ensures) refl

pub returns-in-Ok-Some-clause-met : goal.returns-in-Ok-Some-clause-met
returns-in-Ok-Some-clause-met g c =
    met_or_denied _ _ _ _ _ _ _ _ _ _ _ _ _ _
    (record { short = omega arith; text = c.in-Ok.ensures.cases.1; some = found_some _ _ _ (sym (rw c.in-Ok.ensures.cases.0 at c.without_cr-content.ensures)) c.is_empty.ensures c.if-is_empty.false })
    (rw (c.in-Ok-Some.field-0-is, c.catalogue.ensures, c.without_cr-content.ensures, c.in-Ok.ensures.cases.0) at c.in-Ok-Some.ensures)
    (met_beside _ _ _ _ c.meet_allowed.ensures.met)

pub returns-in-Ok-None-clause-met : goal.returns-in-Ok-None-clause-met
returns-in-Ok-None-clause-met g c =
    IsNoRequest
    (record { short = omega arith; text = c.in-Ok.ensures.cases.1; some = found_some _ _ _ (sym (rw c.in-Ok.ensures.cases.0 at c.without_cr-content.ensures)) c.is_empty.ensures c.if-is_empty.false })
    (rw (c.in-Ok-None.field-0-is, c.catalogue.ensures, c.without_cr-content.ensures, c.in-Ok.ensures.cases.0) at c.in-Ok-None.ensures)
    _ (c.unknown_line-in-Ok-None.ensures ∙ ap (λ (t : SessionTerms). unknown_line t.place.rights) c.terms-in-Ok-None.ensures) refl

pub returns-in-Err-clause-met : goal.returns-in-Err-clause-met
returns-in-Err-clause-met g c =
    IsUnread
    (record { short = omega arith; text = c.in-Ok.ensures.cases.1; some = found_some _ _ _ (sym (rw c.in-Ok.ensures.cases.0 at c.without_cr-content.ensures)) c.is_empty.ensures c.if-is_empty.false })
    refl
