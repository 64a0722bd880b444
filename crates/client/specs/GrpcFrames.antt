-- What the content of a response's body tells: frames of messages, and of trailers at the end (doc/PROTOCOL-WEB.md of grpc).
use Rattle.std.specs.Prelude.{ℕ, ◌≡◌, ◌+◌, ◌-◌, ◌≤◌, ◌⊎◌, max, List, [], ◌∷◌, length, ⊤}
use Rattle.std.specs.Int.{w32, from_be_bytes}
use Rattle.std.specs.List.{AllZip}
use Rattle.grpc_frame.specs.Split.{AreFrames, BeginsTooLong}
use Rattle.health_wire.specs.Response.{IsResponse}

-- the frame of a message that is not compressed, which has this status
abbrev pub HasStatus : ℕ × List ℕ → ℕ → Type 0
HasStatus one status = (one.0 ≡ 0) × IsResponse one.1 status

-- the content is frames of messages with these statuses, in their order, and then the rest
pub record Tells (content statuses rest : List ℕ) : Type 0 where
  pub frames : List (ℕ × List ℕ)
  pub are : AreFrames content frames rest
  pub each : AllZip HasStatus frames statuses

-- the flag of a message, or of trailers, neither of which is compressed
abbrev pub IsFlagged : List ℕ → Type 0
IsFlagged [] = ⊤
IsFlagged (flag ∷ part) = (flag ≡ 0) ⊎ (flag ≡ 128)

-- once all four bytes of a frame's length have come: so many bytes may still come that the frame can become whole
abbrev pub FitsIn : ℕ → List ℕ → Type 0
FitsIn more [] = ⊤
FitsIn more (flag ∷ []) = ⊤
FitsIn more (flag ∷ a ∷ []) = ⊤
FitsIn more (flag ∷ a ∷ b ∷ []) = ⊤
FitsIn more (flag ∷ a ∷ b ∷ c ∷ []) = ⊤
FitsIn more (flag ∷ a ∷ b ∷ c ∷ d ∷ part) = from_be_bytes w32 (a ∷ b ∷ c ∷ d ∷ []) ≤ length part + more

-- what a frame of a response may begin with, where so many bytes may still come
pub record IsSoundFront (more : ℕ) (rest : List ℕ) : Type 0 where
  pub flagged : IsFlagged rest
  pub fits : FitsIn more rest
  pub short : ¬ BeginsTooLong rest

-- how many bytes are missing: to a frame's flag, to the end of its length, or to its end
abbrev pub missing_in : List ℕ → ℕ
missing_in [] = 1
missing_in (flag ∷ []) = 4
missing_in (flag ∷ a ∷ []) = 3
missing_in (flag ∷ a ∷ b ∷ []) = 2
missing_in (flag ∷ a ∷ b ∷ c ∷ []) = 1
missing_in (flag ∷ a ∷ b ∷ c ∷ d ∷ part) = max 1 (from_be_bytes w32 (a ∷ b ∷ c ∷ d ∷ []) - length part)
