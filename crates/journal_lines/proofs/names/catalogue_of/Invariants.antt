use Rattle.std.proofs.Common.{◌≡◌, map, take}
use Rattle.std.specs.Prelude.{string_bytes}
use Rattle.record_log.specs.Log.{texts}
use Rattle.journal_lines.proofs.names.catalogue_of.Given as goal

abbrev pub invariant-loop-number : goal.invariant-loop-number
invariant-loop-number l = map string_bytes l.texts.items ≡ texts (take l.number l.names)
