use Rattle.std.proofs.lemmas.Bool.{MatchBool-at_true, MatchBool-at_false}
use Rattle.crew.proofs.WrongReports.{whole_fails, lost_fails}
use Rattle.crew.proofs.gathering.fault_of.Goals as goal

pub returns-in-None : goal.returns-in-None
returns-in-None c =
    whole_fails c.args.expected c.args.found.now (c.first_wrong.ensures.none c.in-None.is) (MatchBool-at_true _ _ c.if-has_all_below.true c.has_all_below.ensures)

pub returns-in-None-2 : goal.returns-in-None-2
returns-in-None-2 c =
    lost_fails c.args.expected c.args.found.now (c.first_wrong.ensures.none c.in-None.is) (MatchBool-at_false _ _ c.if-has_all_below.false c.has_all_below.ensures)
