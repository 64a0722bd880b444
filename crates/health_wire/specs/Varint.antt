-- Varints: the Protocol Buffers encoding guide, "Base 128 Varints".
use Rattle.std.specs.Prelude.{◌≡◌, ℕ, ◌+◌, ◌-◌, ◌*◌, ◌%◌, ◌^◌, ◌<◌, ◌≤◌, List, [], ◌∷◌, length, slice_index}
use Rattle.health_wire.specs.declared.fault.WireFault.{WireFault}
use Rattle.health_wire.specs.declared.fault.WireFault.TheVariants.{Truncated, BadVarint}

-- each number of the list is a byte
abbrev pub AreBytes : List ℕ → Type 0
AreBytes bytes = (k : ℕ) → slice_index bytes k < 256

-- the first so many bytes have their top bit set: a varint goes on after each of them
abbrev pub AllContinue : List ℕ → ℕ → Type 0
AllContinue bytes count = (k : ℕ) → k < count → 128 ≤ slice_index bytes k

-- one to ten bytes, of which all but the last have their top bit set
pub record IsVarintForm (bytes : List ℕ) : Type 0 where
  pub some : 0 < length bytes
  pub most : length bytes ≤ 10
  pub continues : AllContinue bytes (length bytes - 1)
  pub ends : slice_index bytes (length bytes - 1) < 128

-- the number that the groups of seven bits make, the least significant group first
abbrev pub groups_value : List ℕ → ℕ
groups_value [] = 0
groups_value (byte ∷ bytes) = byte % 128 + 128 * groups_value bytes

-- the bytes spell the value: bits past the 64th are dropped, and a spelling may be longer than it need be
pub record IsVarint (bytes : List ℕ) (value : ℕ) : Type 0 where
  pub form : IsVarintForm bytes
  pub value_is : value ≡ groups_value bytes % 2 ^ 64

-- the shortest spelling of the value: it drops no bits, and its last group could not be left out
pub record IsShortestVarint (bytes : List ℕ) (value : ℕ) : Type 0 where
  pub form : IsVarintForm bytes
  pub value_is : value ≡ groups_value bytes
  pub needed : 1 < length bytes → 0 < slice_index bytes (length bytes - 1)

-- why no varint stands at the front of the bytes: they end within it, or ten of them go on
pub data IsVarintFault (bytes : List ℕ) : WireFault → Type 0 where
  Cut : length bytes < 10 → AllContinue bytes (length bytes) → IsVarintFault bytes Truncated
  Endless : 10 ≤ length bytes → AllContinue bytes 10 → IsVarintFault bytes BadVarint
