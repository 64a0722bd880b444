use Rattle.std.proofs.Common.{refl}
use Rattle.control.specs.Beside.{ChangesBeside, ExpectsBeside, KnowsBeside, LooksBeside, StopsBeside, TellsBeside, seen_beside}
use Rattle.control.specs.Meeting.IsMet.{Starves}
use Rattle.control.proofs.BesideLemmas.{same_beside}
use Rattle.control.proofs.MeetingLemmas.{asks_change, checked, packed, changed}
use Rattle.control.proofs.meeting.meet_line.Goals as goal

pub returns-in-Check-clause-met : goal.returns-in-Check-clause-met
returns-in-Check-clause-met g c =
    checked (g.C.Registrar.names c.args.console.now) (seen_beside g.C.Registrar.seen) (LooksBeside g.C.Console.looks) (ChangesBeside g.C.Registrar.seen g.C.Registrar.answers g.V.Server.terms g.V.Server.woken)
    (ExpectsBeside (g.C.Registrar.names c.args.console.now) g.C.Registrar.seen g.C.Console.looks g.V.Server.terms g.V.Server.expected)
    (TellsBeside g.C.Registrar.seen g.C.Console.kept g.V.Server.terms g.V.Server.counted) (KnowsBeside g.C.Registrar.seen g.C.Console.kept) (StopsBeside g.V.Server.terms g.V.Server.stopped) (c.args.console.now, c.args.server.now) (c.check.new.self, c.args.server.now) c.args.line.now
    c.in-Check.name c.check.result c.in-Check.is (record { looked = c.check.ensures.looks; server = refl }) (rw c.as_str.ensures at c.check.ensures.status)

pub returns-in-Board-clause-met : goal.returns-in-Board-clause-met
returns-in-Board-clause-met g c = packed _ _ _ _ _ _ _ _ _ _ _ _ c.in-Board.is (record { looked = c.board.ensures.looks; server = refl }) c.board.ensures.board

pub returns-in-Some : goal.returns-in-Some
returns-in-Some g c = record {
  names = c.change.ensures.names;
  met = changed _ _ _ _ _ _ _ _ _ _ _ _ (asks_change _ _ c.requires.offered c.in_default.not-Check c.in_default.not-Board) c.in-Some.ensures.changed;
}

pub returns-in-None : goal.returns-in-None
returns-in-None g c = record { names = c.change.ensures.names; met = Starves _ (same_beside _ _ _ _ c.in-None.ensures.failed.0 c.in-None.ensures.failed.1) }
