-- A tap: a reader or a writer, whether a call through it has failed, and whether one had nothing to read into or to write.
use Rattle.std.specs.Prelude.{ℕ, ◌==◌, Bool, true, Result, Ok, Err}
use Rattle.web_call.specs.declared.tap.Tap.{Tap}

-- the reader or writer behind the tap
abbrev pub tap_inner : {T : Type 0} → Tap T → T
tap_inner tap = tap.inner

-- whether a call through the tap has failed
abbrev pub tap_failed : {T : Type 0} → Tap T → Bool
tap_failed tap = tap.failed

-- whether a read or a write through the tap was given an empty buffer
abbrev pub tap_idle : {T : Type 0} → Tap T → Bool
tap_idle tap = tap.idle

-- a write that returned an error, or that took no byte
abbrev pub is_refused : {E : Type 0} → Result ℕ E → Bool
is_refused (Ok count) = count == 0
is_refused (Err error) = true
