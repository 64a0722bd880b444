use Rattle.std.proofs.Common.{◌≡◌, map, string_bytes, take}
use Rattle.std.specs.List.{filter_map}
use Rattle.readout.specs.Names.{name_of}
use Rattle.readout.proofs.names.names_in.Given as goal

-- the names so far are those of the words so far
abbrev pub invariant-loop-word : goal.invariant-loop-word
invariant-loop-word l = map string_bytes l.names.items ≡ filter_map name_of (map (λ word. word.now) (take l.word-index l.word-items))
