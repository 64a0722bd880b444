-- How much time a machine has behind a turn.
use Rattle.std.specs.Prelude.{Bool, true, false, ℕ, ◌≡◌, ◌≢◌, ◌<◌, ◌+◌, ◌*◌, ◌↔◌, Option, None, IfSome, IsSome, List, []}
use Rattle.std.specs.Time.{FitsClock, instant_nanos}
use Rattle.std.specs.declared.time.Instant.{Instant}

-- so many milliseconds from now, unless the clock does not go so far
pub record IsAfter (now : Instant) (millis : ℕ) (until : Option Instant) : Type 0 where
  pub some : IsSome until ↔ FitsClock (instant_nanos now + millis * 1000000)
  pub value : IfSome until (λ t. instant_nanos t ≡ instant_nanos now + millis * 1000000)

-- the time that a machine has behind a turn: while bytes wait for its peer so many milliseconds; while it waits for a change no end; and
-- while it wants bytes what is left of its time, if its peer has to hurry
pub record HasTime {M : Type 0} (takes : M → ℕ) (waiting : M → List ℕ) (hurries : Bool) (now : Instant) (machine : M) (before until : Option Instant) : Type 0 where
  pub owes : waiting machine ≢ [] → IsAfter now 30000 until
  pub rests : waiting machine ≡ [] → takes machine ≡ 0 → until ≡ None
  pub reads : waiting machine ≡ [] → 0 < takes machine → hurries ≡ true → until ≡ before
  pub lingers : waiting machine ≡ [] → 0 < takes machine → hurries ≡ false → until ≡ None
