use Rattle.control.specs.Beside.{ExpectsBeside}
use Rattle.control.proofs.ForeignLemmas.{foreign, own}
use Rattle.control.proofs.OneMeeting.{as_request, denied_line, no_request, no_text, says_nothing, too_long}
use Rattle.control.proofs.laws.one_meeting.Goals as goal

pub returns : goal.returns
returns g c = record {
  foreign = λ names old new line answer. foreign;
  too_long = λ names old new line answer met is_not.
      too_long (λ held. (g.V.Server.terms held.1).place.rights)
      (λ listed. ExpectsBeside listed g.C.Registrar.seen g.C.Console.looks g.V.Server.terms g.V.Server.expected) names old new line answer (own met is_not);
  no_text = λ names old new line answer met is_not.
      no_text (λ held. (g.V.Server.terms held.1).place.rights)
      (λ listed. ExpectsBeside listed g.C.Registrar.seen g.C.Console.looks g.V.Server.terms g.V.Server.expected) names old new line answer (own met is_not);
  silent = λ names old new line answer met is_not.
      says_nothing (λ held. (g.V.Server.terms held.1).place.rights)
      (λ listed. ExpectsBeside listed g.C.Registrar.seen g.C.Console.looks g.V.Server.terms g.V.Server.expected) names old new line answer (own met is_not);
  no_request = λ names old new line answer met is_not.
      no_request (λ held. (g.V.Server.terms held.1).place.rights)
      (λ listed. ExpectsBeside listed g.C.Registrar.seen g.C.Console.looks g.V.Server.terms g.V.Server.expected) names old new line answer (own met is_not);
  request = λ names old new line answer request met is_not.
      as_request (λ held. (g.V.Server.terms held.1).place.rights)
      (λ listed. ExpectsBeside listed g.C.Registrar.seen g.C.Console.looks g.V.Server.terms g.V.Server.expected) names old new line answer request (own met is_not);
  denied = λ names old new line answer request met is_not.
      denied_line (λ held. (g.V.Server.terms held.1).place.rights)
      (λ listed. ExpectsBeside listed g.C.Registrar.seen g.C.Console.looks g.V.Server.terms g.V.Server.expected) names old new line answer request (own met is_not);
}
