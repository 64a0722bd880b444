-- What clauses see of a device in memory.
use Rattle.std.specs.Prelude.{ℕ, List}
use Rattle.record_log.specs.Crashes.{contents_of, MayLeave}
use Rattle.record_log.specs.Memory.{states_of}
use Rattle.record_log.specs.declared.memory.Memory.{Memory}

-- what a read gives
abbrev pub memory_bytes : Memory → List ℕ
memory_bytes m = contents_of (states_of m.states.items)

-- what a crash may leave
abbrev pub memory_may_leave : Memory → List ℕ → Type 0
memory_may_leave m = MayLeave (states_of m.states.items)
