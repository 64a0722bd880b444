-- What the calls of a device do to its bytes, and what a crash may do to them between two syncs: the
-- rule of POSIX.1-2017, where `fsync` ends the time in which a write may be lost, and no write
-- before it is whole or in order (XSH, `write` and `fsync`).
use Rattle.std.specs.Prelude.{◌≡◌, ◌⊎◌, ◌<◌, ℕ, ◌+◌, ◌≤◌, max, List, ◌++◌, length, take, drop, Result, IsErrOf}
use Rattle.record_log.specs.declared.device.DeviceError.{DeviceError}
use Rattle.record_log.specs.declared.device.DeviceError.TheVariants.{Failed}

-- the old bytes, with these at this place over what was there
abbrev pub IsWritten : List ℕ → ℕ → List ℕ → List ℕ → Type 0
IsWritten old at bytes new = new ≡ take at old ++ bytes ++ drop (at + length bytes) old

-- a write of n bytes at this place that a crash cuts short: any bytes in its range, any length
-- between the old one and the new, and the same elsewhere
pub record IsTorn (at n : ℕ) (old new : List ℕ) : Type 0 where
  pub before : take at new ≡ take at old
  pub after : drop (at + n) new ≡ drop (at + n) old
  pub no_shorter : length old ≤ length new
  pub no_longer : length new ≤ max (length old) (at + n)

-- all that a crash may leave now is something that it might have left before, after this step
abbrev pub Follows : (List ℕ → List ℕ → Type 0) → (List ℕ → Type 0) → (List ℕ → Type 0) → Type 0
Follows step before now = (c : List ℕ) → now c → (d : List ℕ) × before d × step d c

-- a crash leaves these bytes and no others
abbrev pub IsDurable : List ℕ → (List ℕ → Type 0) → Type 0
IsDurable bytes may_leave = (c : List ℕ) → may_leave c → c ≡ bytes

-- a call goes by: a crash since some moment left what it might have left before the call, or what
-- it may leave after it
pub record Elapses (before now : ℕ) (past since : ℕ → List ℕ → Type 0) (may_leave : List ℕ → Type 0) : Type 0 where
  pub later : before ≤ now
  pub nothing_else : (t : ℕ) (c : List ℕ) → t ≤ before → since t c → past t c ⊎ may_leave c
  pub keeps : (t : ℕ) (c : List ℕ) → t ≤ before → past t c → since t c

-- a crash at any moment between the old state and the new one leaves bytes that have P
pub record LeavesOnly {D : Type 0} (moment : D → ℕ) (left_since : D → ℕ → List ℕ → Type 0) (old new : D) (P : List ℕ → Type 0) : Type 0 where
  pub later : moment old ≤ moment new
  pub each : (c : List ℕ) → left_since new (moment old) c → P c
  -- so that one run of calls can be joined to another before it
  pub before : (t : ℕ) (c : List ℕ) → t ≤ moment old → left_since new t c → left_since old t c ⊎ P c

-- failures are counted, and `Failed` is told only where there was one more
pub record IsCounted {T : Type 0} (before now : ℕ) (result : Result T DeviceError) : Type 0 where
  pub later : before ≤ now
  pub failed : IsErrOf result Failed → before < now
