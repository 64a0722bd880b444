use Rattle.std.proofs.Common.{◌≡◌, ◌<◌, ◌≤◌, ℕ, slice_index_or}
use Rattle.desk_core.specs.declared.latest.Latest.{Latest}
use Rattle.desk_core.specs.Latest.{next_latest}
use Rattle.desk_core.proofs.latest.LatestOfAll.note.Given as goal

abbrev pub invariant-loop-number : goal.invariant-loop-number
invariant-loop-number l =
    ((i : ℕ) (other : Latest) → i < l.number
    → slice_index_or l.self.slots i other ≡ next_latest i l.fn.entry l.fn.at l.fn.before l.fn.after (slice_index_or l.fn.self.slots i other))
    × ((i : ℕ) (other : Latest) → l.number ≤ i → slice_index_or l.self.slots i other ≡ slice_index_or l.fn.self.slots i other)
