-- Messages: the Protocol Buffers encoding guide, "Message Structure" and "Last One Wins".
use Rattle.std.specs.Prelude.{◌≡◌, ℕ, ◌<◌, Option, None, List, [], ◌∷◌, ◌++◌, length}
use Rattle.std.specs.List.{filter_map, last_or}
use Rattle.health_wire.specs.declared.fault.WireFault.{WireFault}
use Rattle.health_wire.specs.Parts.{Begins}
use Rattle.health_wire.specs.Field.{WireField, IsField, IsFieldFault}

-- the bytes are these fields, one after another
abbrev pub IsMessage : List ℕ → List WireField → Type 0
IsMessage bytes [] = bytes ≡ []
IsMessage bytes (field ∷ fields) = (front : List ℕ) × (rest : List ℕ) × (bytes ≡ front ++ rest) × IsField front field × IsMessage rest fields

-- the first fault from the left: a front of the bytes is a message, and what follows it begins with no field
pub record IsFault (bytes : List ℕ) (fault : WireFault) : Type 0 where
  pub fields : List WireField
  pub rest : List ℕ
  pub reads : Begins (λ front. IsMessage front fields) bytes rest
  pub more : 0 < length rest
  pub fault_is : IsFieldFault rest fault

-- what the fields give of one kind: the last one wins
abbrev pub last_given : {V : Type 0} → (WireField → Option V) → List WireField → Option V
last_given given fields = last_or None (filter_map given fields)
