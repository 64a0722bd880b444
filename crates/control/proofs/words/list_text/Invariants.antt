use Rattle.std.proofs.Common.{◌≡◌, ◌++◌, drop, map, string_bytes}
use Rattle.desk_core.specs.Board.{status_in}
use Rattle.control.specs.Text.{listed_from}
use Rattle.control.proofs.words.list_text.Given as goal

abbrev pub invariant-loop-number : goal.invariant-loop-number
invariant-loop-number l =
    listed_from (status_in l.board) 0 l.catalogue ≡ map string_bytes l.words.items ++ listed_from (status_in l.board) l.number (drop l.number l.catalogue)
