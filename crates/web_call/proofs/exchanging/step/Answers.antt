use Rattle.std.proofs.Common.{◌≡◌, [], arith, rules}
use Rattle.web_call.proofs.ExchangeLemmas.{asked_none}
use Rattle.web_call.proofs.WalkLemmas.{AsksDoor-none}
use Rattle.web_call.proofs.exchanging.step.Goals as goal
use Rattle.web_call.proofs.exchanging.step.Goals.{else-had-looks-via-then-had-looks+else-eq, else-had-looks-via-else-had-looks}

pub returns-else-had-looks-clause-asked : goal.returns-else-had-looks-clause-asked
returns-else-had-looks-clause-asked g c =
    let still : g.B.Bell.given c.else-had-looks.bell ≡ g.B.Bell.given c.args.bell.now =
    elim c.else-had-looks.branch [ else-had-looks-via-then-had-looks+else-eq w ↦ search rules | else-had-looks-via-else-had-looks w ↦ search rules ] in
    ([], AsksDoor-none, asked_none (record { names = g.D.Door.names c.args.door.now; kept = g.D.Door.kept; is_plain = g.D.Door.is_plain }) c.args.call.now c.end.new.self c.end.ensures.ended, omega arith, omega (arith, still))
