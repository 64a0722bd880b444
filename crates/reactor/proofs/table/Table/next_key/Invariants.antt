use Rattle.std.proofs.Common.{◌≡◌, ℕ, ◌<◌, ◌≤◌, None, slice_index_or}
use Rattle.reactor.proofs.table.Table.next_key.Given as goal

-- no key from the first on holds a connection
abbrev pub invariant-loop-key : goal.invariant-loop-key
invariant-loop-key g l = (l.from ≤ l.key) × ((other : ℕ) → l.from ≤ other → other < l.key → slice_index_or l.self-inside.places.slots other None ≡ None)
