-- The board: how many entries there are, and the status of each slot, in one word.
use Rattle.std.specs.Prelude.{ℕ, zero, suc, ◌+◌, ◌*◌, ◌/◌, ◌%◌, ◌^◌, Option, None, Some, List, length}
use Rattle.health_wire.specs.declared.serving.Serving.{Serving}
use Rattle.health_wire.specs.declared.serving.Serving.TheVariants.{Unknown, NotServing, ServiceUnknown, Serving as IsServing}
use Rattle.desk_core.specs.declared.entry.Entry.{Entry}
use Rattle.desk_core.specs.Status.{status_at}

-- two bits for a status; no slot has SERVICE_UNKNOWN
abbrev pub code_of : Option Serving → ℕ
code_of None = 0
code_of (Some IsServing) = 1
code_of (Some NotServing) = 2
code_of (Some Unknown) = 3
code_of (Some ServiceUnknown) = 0

-- the codes of the slots below the n-th, the first slot lowest
unfoldable pub packed : (ℕ → Option Serving) → ℕ → ℕ
packed statuses zero = 0
packed statuses (suc n) = packed statuses n + code_of (statuses n) * 4 ^ n

-- the status that a code stands for
abbrev pub status_of_code : ℕ → Option Serving
status_of_code zero = None
status_of_code (suc zero) = Some IsServing
status_of_code (suc (suc zero)) = Some NotServing
status_of_code (suc (suc (suc n))) = Some Unknown

-- the status of a slot in such a word
abbrev pub status_in : ℕ → ℕ → Option Serving
status_in word i = status_of_code (word / 4 ^ i % 4)

-- the number of entries in the upper half of the word, and the statuses in the lower
abbrev pub board_of : List Entry → ℕ
board_of entries = length entries * 2 ^ 32 + packed (status_at entries) 16

-- how many entries a board counts: its upper half
abbrev pub entries_in : ℕ → ℕ
entries_in word = word / 2 ^ 32
