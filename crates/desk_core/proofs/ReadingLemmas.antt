-- What is read from the board of a history.
use Rattle.std.proofs.Common.{◌≡◌, ℕ, ◌%◌, ◌<◌, List, length, sym, ◌∙◌, arith}
use Rattle.desk_core.specs.declared.entry.Entry.{Entry}
use Rattle.desk_core.specs.Board.{packed, board_of, entries_in, status_in}
use Rattle.desk_core.specs.Status.{status_at}
use Rattle.desk_core.proofs.BoardLemmas.{packed_fits, lower_half}
use Rattle.desk_core.proofs.DeskLemmas.{read_status}

-- how many entries the history has
pub read_entries : (entries : List Entry) (word : ℕ) → word ≡ board_of entries → entries_in word ≡ length entries
read_entries entries word is = omega (arith, is, packed_fits (status_at entries))

-- the status that the history gives a slot
pub read_on_board : (entries : List Entry) (word i : ℕ) → word ≡ board_of entries → i < 16 → status_in word i ≡ status_at entries i
read_on_board entries word i is few =
    let low : word % 4294967296 ≡ packed (status_at entries) 16 = omega (arith, is, packed_fits (status_at entries)) in
    sym (lower_half word i few) ∙ read_status entries (word % 4294967296) i low few
