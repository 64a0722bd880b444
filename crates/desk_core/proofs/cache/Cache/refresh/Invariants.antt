use Rattle.std.proofs.Common.{◌≡◌, ℕ, Bool, Option, List}
use Rattle.health_wire.specs.declared.serving.Serving.{Serving}
use Rattle.probe_core.specs.declared.rule.Rule.{Rule}
use Rattle.desk_core.specs.Board.{packed}
use Rattle.desk_core.specs.Cache.{Leaves}
use Rattle.desk_core.proofs.RefreshLemmas.{Touches, Refreshing}
use Rattle.desk_core.proofs.cache.Cache.refresh.Given as goal

abbrev pub invariant-loop-number : goal.invariant-loop-number
invariant-loop-number g l = record {
  dependents : l.self.dependents ≡ l.fn.self.dependents;
  on : (f h : ℕ → Option Serving) (was : List (Option (Rule × ℕ))) (was_shut : Bool)
      → Touches f h was l.slots.places.items was_shut l.is_shut l.fn.self.dependents → Leaves l.touched was was_shut l.slots.places.items l.is_shut
      → l.fn.self.statuses ≡ packed f 16 → Refreshing f h was l.slots.places.items was_shut l.is_shut l.number l.marked l.self.statuses;
}
