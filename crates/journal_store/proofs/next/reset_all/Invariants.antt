use Rattle.std.proofs.Common.{◌≡◌, ℕ, None, slice_index_or, ◌<◌, ◌≤◌}
use Rattle.desk_core.specs.Slots.{was_reset}
use Rattle.journal_store.proofs.next.reset_all.Given as goal

abbrev pub invariant-loop-place : goal.invariant-loop-place
invariant-loop-place l =
    ((i : ℕ) → i < l.place-index → slice_index_or l.slots i None ≡ was_reset (slice_index_or l.fn.slots i None))
    × ((i : ℕ) → l.place-index ≤ i → slice_index_or l.slots i None ≡ slice_index_or l.fn.slots i None)
