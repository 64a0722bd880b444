use Rattle.std.proofs.Common.{◌≡◌, ◌+◌, drop, length, take}
use Rattle.record_log.specs.Log.{blocks, texts}
use Rattle.journal_lines.proofs.place.place_of.Given as goal

abbrev pub invariant-loop-record : goal.invariant-loop-record
invariant-loop-record l = l.place ≡ length (blocks (texts (take l.number l.records))) + length (blocks (texts (drop l.record-index (drop l.number l.records))))
