use Rattle.hall.proofs.CarryingOut.{met_ours}
use Rattle.server.proofs.AgainLemmas.{made_as, not_faulty, not_made}
use Rattle.server.proofs.again.make_again.Goals as goal

pub returns-in-Ok-clause-made : goal.returns-in-Ok-clause-made
returns-in-Ok-clause-made g c is = made_as c.args.seat.now c.change.new.seat _ c.in-Ok.made.reply c.args.entry.reply c.eq.result c.eq.ensures is c.in-Ok.ensures.answered

pub returns-in-Ok-clause-ours : goal.returns-in-Ok-clause-ours
returns-in-Ok-clause-ours g c = met_ours c.args.hall.now c.args.seat.now c.change.new.seat _ _ c.requires.ours c.in-Ok.ensures.answered

pub returns-in-Err-NoMemory-default-clause-ours : goal.returns-in-Err-NoMemory-default-clause-ours
returns-in-Err-NoMemory-default-clause-ours g c =
    met_ours c.args.hall.now c.args.seat.now c.change.new.seat _ _ c.requires.ours c.in-Err-NoMemory-default.ensures.answered

pub returns-then-not-is_listed-clause-made : goal.returns-then-not-is_listed-clause-made
returns-then-not-is_listed-clause-made g c = not_made

pub returns-in-Err-NoMemory-default-clause-made : goal.returns-in-Err-NoMemory-default-clause-made
returns-in-Err-NoMemory-default-clause-made g c = not_faulty _
