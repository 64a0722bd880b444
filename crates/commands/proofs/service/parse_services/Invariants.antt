use Rattle.std.proofs.Common.{take}
use Rattle.commands.specs.Service.{AreServiceWords}
use Rattle.commands.proofs.service.parse_services.Given as goal

abbrev pub invariant-loop-word : goal.invariant-loop-word
invariant-loop-word l = AreServiceWords (take l.word-index l.words) l.list.items
