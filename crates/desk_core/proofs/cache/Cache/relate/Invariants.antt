use Rattle.std.proofs.Common.{◌≡◌, length}
use Rattle.desk_core.proofs.CacheLemmas.{Relating}
use Rattle.desk_core.proofs.cache.Cache.relate.Given as goal

abbrev pub invariant-loop-number : goal.invariant-loop-number
invariant-loop-number l = record {
  statuses : l.self.statuses ≡ l.fn.self.statuses;
  whole : length l.self.dependents ≡ 16;
  related : Relating l.slot l.rule l.fn.self.dependents l.self.dependents l.number;
}
