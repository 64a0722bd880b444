-- What a crash may leave of a device, by all the states that it was in, the newest first.
use Rattle.std.specs.Prelude.{◌≡◌, ◌⊎◌, ℕ, ◌≤◌, List, [], ◌∷◌, length, Option, Some, None}
use Rattle.std.proofs.Common.{inl, inr, not-le_of_lt, lt-suc_self}
use Rattle.record_log.specs.Device.{IsTorn}

-- the bytes that a call left, and the place and length of the write that made them; a sync has none
pub record State : Type 0 where
  pub bytes : List ℕ
  pub write : Option (ℕ × ℕ)

-- the newest bytes
abbrev pub contents_of : List State → List ℕ
contents_of [] = []
contents_of (state ∷ past) = state.bytes

-- what a write tears of bytes that a crash might have left before it
abbrev pub TornOf : Option (ℕ × ℕ) → (List ℕ → Type 0) → List ℕ → Type 0
TornOf None before c = ⊥
TornOf (Some write) before c = (d : List ℕ) × before d × IsTorn write.0 write.1 d c

-- the newest bytes, and where a write made them also what it tears
abbrev pub MayLeave : List State → List ℕ → Type 0
MayLeave [] c = c ≡ []
MayLeave (state ∷ past) c = (c ≡ state.bytes) ⊎ TornOf state.write (MayLeave past) c

-- what it might have left when so many states or more were behind it
abbrev pub LeftSince : List State → ℕ → List ℕ → Type 0
LeftSince [] t c = MayLeave [] c
LeftSince (state ∷ past) t c = MayLeave (state ∷ past) c ⊎ ((t ≤ length past) × LeftSince past t c)

-- now is one of the moments since an earlier one
pub counts_now : (states : List State) (t : ℕ) (c : List ℕ) → t ≤ length states → MayLeave states c → LeftSince states t c
counts_now [] t c le now = now
counts_now (state ∷ past) t c le now = inl now

-- since now there is no other moment
pub only_now : (states : List State) (c : List ℕ) → LeftSince states (length states) c → MayLeave states c
only_now [] c left = left
only_now (state ∷ past) c (inl now) = now
only_now (state ∷ past) c (inr (le, left)) = absurd (not-le_of_lt (lt-suc_self _) le)
