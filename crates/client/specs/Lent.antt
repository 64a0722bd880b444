-- A reader or a writer that is lent to a call.
use Rattle.std.specs.Prelude.{ℕ, ◌==◌, Bool, true, Result, Ok, Err}
use Rattle.std.specs.Borrow.{GName}
use Rattle.client.specs.declared.lent.Lent.{Lent}

-- the reader or the writer
abbrev pub lent_inner : {T : Type 0} → Lent T → T
lent_inner lent = lent.inner.now

-- which loan it is, by the name of its reference
abbrev pub lent_name : {T : Type 0} → Lent T → GName
lent_name lent = lent.inner.ghost_name

-- whether a call through it has failed
abbrev pub lent_failed : {T : Type 0} → Lent T → Bool
lent_failed lent = lent.failed

-- a read or a write that returned an error, or that moved no byte
abbrev pub is_stopped : {E : Type 0} → Result ℕ E → Bool
is_stopped (Ok count) = count == 0
is_stopped (Err error) = true
