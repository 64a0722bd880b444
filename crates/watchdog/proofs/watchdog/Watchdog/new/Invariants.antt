use Rattle.std.proofs.Common.{◌≡◌, ◌<◌, ℕ, slice_index_or}
use Rattle.std.specs.Prelude.{vec_len}
use Rattle.watchdog.specs.Guard.{GuardState, fresh}
use Rattle.watchdog.proofs.watchdog.Watchdog.new.Given as goal

abbrev pub invariant-loop-number : goal.invariant-loop-number
invariant-loop-number l =
    (vec_len l.guards ≡ l.number) × ((slot : ℕ) (other : GuardState) → slot < l.number → slice_index_or l.guards.items slot other ≡ fresh slot)
