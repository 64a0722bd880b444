use Rattle.std.proofs.Common.{◌≡◌, ◌<◌, ◌≤◌, ℕ, slice_index_or}
use Rattle.desk_core.specs.declared.marks.Mark.{Mark}
use Rattle.desk_core.specs.Marks.{next_mark, next_shut}
use Rattle.desk_core.proofs.marks.Marks.note.Given as goal

abbrev pub invariant-loop-number : goal.invariant-loop-number
invariant-loop-number l =
    (l.self.shut ≡ next_shut l.fn.call l.fn.at l.fn.self.shut)
    × ((i : ℕ) (other : Mark) → i < l.number → slice_index_or l.self.slots i other ≡ next_mark i l.fn.call l.fn.reply l.fn.rule l.fn.at (slice_index_or l.fn.self.slots i other))
    × ((i : ℕ) (other : Mark) → l.number ≤ i → slice_index_or l.self.slots i other ≡ slice_index_or l.fn.self.slots i other)
