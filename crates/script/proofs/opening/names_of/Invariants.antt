use Rattle.std.proofs.Common.{◌≡◌, map, take}
use Rattle.std.specs.String.{string_bytes}
use Rattle.script.specs.TextLines.{texts}
use Rattle.script.specs.Word.{name_of}
use Rattle.script.proofs.opening.names_of.Given as goal

abbrev pub invariant-loop-word : goal.invariant-loop-word
invariant-loop-word l = map string_bytes l.names.items ≡ map name_of (texts (take l.word-index l.words))
