use Rattle.std.proofs.Common.{[], arith}
use Rattle.web_call.proofs.ExchangeLemmas.{asked_none}
use Rattle.web_call.proofs.WalkLemmas.{AsksDoor-none}
use Rattle.web_call.proofs.exchanging.reply.Goals as goal

pub returns-else-is_whole-clause-asked : goal.returns-else-is_whole-clause-asked
returns-else-is_whole-clause-asked g c =
    ([], omega arith, AsksDoor-none, asked_none (record { names = g.D.Door.names c.args.door.now; kept = g.D.Door.kept; is_plain = g.D.Door.is_plain }) c.args.call.now c.args.call.now (λ source past stands. stands))
