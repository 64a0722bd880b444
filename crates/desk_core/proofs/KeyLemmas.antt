-- Names as the keys of a set: what a test of the strings says of their bytes, and that inserted in turn they stay in order.
use Rattle.std.proofs.Common.{ℕ, ◌≡◌, ◌+◌, ◌-◌, ◌<◌, ◌≤◌, ◌↔◌, ◌||◌, not, Bool, false, List, [], ◌∷◌, length, take, drop, get_or, map, refl, ap, ◌∙◌}
use Rattle.std.proofs.Common.{sym, arith, String, string_bytes, Option, Some, None, IsSome, IfSome}
use Rattle.std.proofs.Math.Seq.{take-length}
use Rattle.std.proofs.lemmas.Bool.{or_parts}
use Rattle.std.proofs.lemmas.List.{length-map}
use Rattle.std.specs.Bool.{if◌then◌else◌}
use Rattle.std.specs.List.{list_any, position_or_len, position, AllByRecursion, IsDistinct}
use Rattle.std.specs.Str.{bytes_eq}
use Rattle.std.specs.String.{string_eq, string_eq_equiv}
use Rattle.indexmap.specs.IndexSet.{insert_all}
use Rattle.indexmap.proofs.SetLemmas.{set_all_distinct}
use Rattle.desk_core.specs.Catalogue.{IsCatalogue, has_double}
use Rattle.desk_core.specs.Fault.{fault_in}
use Rattle.desk_core.proofs.CatalogueLemmas.{all_pass, IsCatalogue-from_none}

-- a test of what each element is mapped to
pub list_any-map : {X Y : Type 0} (test : Y → Bool) (f : X → Y) (xs : List X) → list_any test (map f xs) ≡ list_any (λ x. test (f x)) xs
list_any-map test f [] = refl
list_any-map test f (x ∷ xs) = ap (λ b. test (f x) || b) (list_any-map test f xs)

-- the first place at which such a test passes
position_or_len-map : {X Y : Type 0} (test : Y → Bool) (f : X → Y) (xs : List X) → position_or_len test (map f xs) ≡ position_or_len (λ x. test (f x)) xs
position_or_len-map test f [] = refl
position_or_len-map test f (x ∷ xs) = ap (λ (n : ℕ). if not (test (f x)) then 1 + n else 0) (position_or_len-map test f xs)

pub position-map : {X Y : Type 0} (test : Y → Bool) (f : X → Y) (xs : List X) → position test (map f xs) ≡ position (λ x. test (f x)) xs
position-map test f xs = rw (position_or_len-map test f xs, length-map xs f) refl

-- the slot of a place below 16
pub slot_is : (slot : Option ℕ) (place : ℕ) → (IsSome slot ↔ (place < 16)) → IfSome slot (λ number. number ≡ place) → place < 16 → slot ≡ Some place
slot_is None place some is below = let there : IsSome {T = ℕ} None = some.1 below in cc
slot_is (Some number) place some is below = ap Some is

module _ {Z : Type 0} where
  -- the strings behind the first
  abbrev behind : List (String Z) → List (String Z)
  behind names = take (length names - 1) (drop 1 names)

  -- a string stands there twice: the first, or one behind it
  pub has_double-first : (names : List (String Z)) (name : String Z) → 1 ≤ length names → name ≡ get_or names 0 name
      → has_double (map string_bytes names)
      ≡ (list_any (λ other. string_eq other name) (behind names) || has_double (map string_bytes (behind names)))
  has_double-first [] name some is = absurd (omega arith)
  has_double-first (first ∷ others) name some is =
      let rest : length (first ∷ others) - 1 ≡ length others = omega arith in
      let same : name ≡ first = is in
      rw (rest, take-length others, same, list_any-map (λ other. bytes_eq other (string_bytes first)) string_bytes others) refl

  -- strings of different bytes are different keys
  apart : (name : String Z) (others : List (String Z)) → list_any (λ other. bytes_eq other (string_bytes name)) (map string_bytes others) ≡ false
      → AllByRecursion (λ other. string_eq name other ≡ false) others
  apart name [] none = tt
  apart name (other ∷ others) none =
      let parts = or_parts _ _ none in
      (string_eq_equiv.symm name other ∙ parts.0, apart name others parts.1)

  distinct_keys : (names : List (String Z)) → has_double (map string_bytes names) ≡ false → IsDistinct string_eq names
  unfolding IsDistinct
  distinct_keys [] none = tt
  distinct_keys (name ∷ names) none = (apart name names (or_parts _ _ none).0, distinct_keys names (or_parts _ _ none).1)

  -- names without a fault, inserted in turn, are the keys in the same order
  pub keys_stay : (names keys : List (String Z)) → keys ≡ insert_all string_eq [] names → None ≡ fault_in (map string_bytes names) → keys ≡ names
  keys_stay names keys inserted none =
      inserted ∙ set_all_distinct string_eq_equiv [] names (distinct_keys names (all_pass (map string_bytes names) (sym none)).single)

  pub keys_are_catalogue : (names keys : List (String Z)) → keys ≡ insert_all string_eq [] names → None ≡ fault_in (map string_bytes names) → IsCatalogue (map string_bytes keys)
  keys_are_catalogue names keys inserted none =
      rw (keys_stay names keys inserted none) (IsCatalogue-from_none (map string_bytes names) (sym none))
