-- The names of the services, which stay as they are while a server runs. The empty name stands for the server as a whole
-- (health-checking.md of grpc).
use Rattle.std.specs.Prelude.{ℕ, ◌≡◌, ◌≤◌, ◌==◌, ◌||◌, nat_lt, Bool, false, List, [], ◌∷◌, length, slice_get, position, All, Contains, Option, Some}
use Rattle.std.specs.List.{list_any}
use Rattle.std.specs.Str.{bytes_eq}

-- the name at a slot, which counts from 0
abbrev pub name_at : List (List ℕ) → ℕ → Option (List ℕ)
name_at names slot = slice_get names slot

-- the slot of a name: its place in the list
abbrev pub slot_of : List (List ℕ) → List ℕ → Option ℕ
slot_of names name = position (bytes_eq name) names

-- no name stands at two slots
abbrev pub HasNoDouble : List (List ℕ) → Type 0
HasNoDouble names = (i j : ℕ) (name : List ℕ) → name_at names i ≡ Some name → name_at names j ≡ Some name → i ≡ j

-- a catalogue: 1 to 16 names of at most 128 bytes, all different, the empty one among them
pub record IsCatalogue (names : List (List ℕ)) : Type 0 where
  pub some : 1 ≤ length names
  pub few : length names ≤ 16
  pub short : All (λ name. length name ≤ 128) names
  pub distinct : HasNoDouble names
  pub has_empty : Contains names []

-- a name has more than 128 bytes
abbrev pub has_too_long : List (List ℕ) → Bool
has_too_long names = list_any (λ name. nat_lt 128 (length name)) names

-- a name stands there again behind its first place
abbrev pub has_double : List (List ℕ) → Bool
has_double [] = false
has_double (name ∷ others) = list_any (λ other. bytes_eq other name) others || has_double others

-- the empty name stands there
abbrev pub has_empty_name : List (List ℕ) → Bool
has_empty_name names = list_any (λ name. length name == 0) names
