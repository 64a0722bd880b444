-- That the tests of names tell a catalogue, and that a name and its slot lead to one another.
use Rattle.std.proofs.Common.{ℕ, ◌≡◌, ◌<◌, ◌≤◌, ◌==◌, nat_lt, Bool, true, false, List, [], ◌∷◌, length, get_or, refl, ap, ◌∙◌, sym, arith, zero, suc, Option, Some, None}
use Rattle.std.proofs.lemmas.Bool.{eqb-true, ltb-false, lt-ltb, or_parts, or_from}
use Rattle.std.proofs.lemmas.Bool.Decides.{nat_tests}
use Rattle.std.proofs.lemmas.List.Folds.{list_any_at, list_any_none, Any-from_list_any}
use Rattle.std.proofs.lemmas.List.Quantifiers.{position-Some}
use Rattle.std.proofs.lemmas.List.Sums.{position_or_len_is}
use Rattle.std.proofs.lemmas.Option.{get_or_from_slice_get, slice_get_within, slice_get-get_or}
use Rattle.std.proofs.lemmas.Slice.Eq.{bytes_eq-Decides}
use Rattle.std.specs.Bool.{if◌then◌else◌}
use Rattle.std.specs.List.{list_any, position_or_len, All, Contains}
use Rattle.std.specs.Str.{bytes_eq}
use Rattle.desk_core.specs.declared.catalogue.CatalogueFault.{CatalogueFault}
use Rattle.desk_core.specs.declared.catalogue.CatalogueFault.TheVariants.{NoNames, TooMany, TooLong, TwiceListed, NoEmptyName}
use Rattle.desk_core.specs.Catalogue.{IsCatalogue, HasNoDouble, slot_of, name_at, has_too_long, has_double, has_empty_name}
use Rattle.desk_core.specs.Fault.{fault_in}

-- where a test passes nowhere, it fails at each place
fails_at : {X : Type 0} (answer : Bool) (test : X → Bool) (xs : List X) (k : ℕ) (d : X) → list_any test xs ≡ false → k < length xs → test (get_or xs k d) ≡ answer → answer ≡ false
fails_at false test xs k d none within is = refl
fails_at true test xs k d none within is = sym (list_any_at test xs k d within is) ∙ none

fails_each : {X : Type 0} (test : X → Bool) (xs : List X) → list_any test xs ≡ false → All (λ x. test x ≡ false) xs
fails_each test xs none k d within = fails_at (test (get_or xs k d)) test xs k d none within refl

-- a number that is not above 128
not_above : (n : ℕ) → n ≤ 128 → nat_lt 128 n ≡ false
not_above n is = grind (arith, nat_tests)

-- no name is too long
pub All-from_test : (names : List (List ℕ)) → has_too_long names ≡ false → All (λ name. length name ≤ 128) names
All-from_test names none k d within = ltb-false 128 (length (get_or names k d)) (fails_each (λ name. nat_lt 128 (length name)) names none k d within)

pub has_too_long-All : (names : List (List ℕ)) → All (λ name. length name ≤ 128) names → has_too_long names ≡ false
has_too_long-All names short = list_any_none (λ name. nat_lt 128 (length name)) names (λ k d within. not_above (length (get_or names k d)) (short k d within))

-- a name that does not stand behind the first is not the first
once : (first : List ℕ) (others : List (List ℕ)) (j : ℕ) → list_any (λ other. bytes_eq other first) others ≡ false → name_at others j ≡ Some first → ⊥
once first others j none at =
    let within : j < length others = slice_get_within others j first at in
    let is : get_or others j [] ≡ first = get_or_from_slice_get others j first [] at in
    let passes : bytes_eq (get_or others j []) first ≡ true = (bytes_eq-Decides (get_or others j []) first).1 is in
    let fails : bytes_eq (get_or others j []) first ≡ false = fails_each (λ other. bytes_eq other first) others none j [] within in
    cc

-- no name stands at two slots
pub HasNoDouble-from_test : (names : List (List ℕ)) → has_double names ≡ false → HasNoDouble names
HasNoDouble-from_test [] none i j name at again = cc
HasNoDouble-from_test (first ∷ others) none zero zero name at again = refl
HasNoDouble-from_test (first ∷ others) none zero (suc j) name at again =
    absurd (once first others j (or_parts _ _ none).0 (again ∙ sym at))
HasNoDouble-from_test (first ∷ others) none (suc i) zero name at again =
    absurd (once first others i (or_parts _ _ none).0 (at ∙ sym again))
HasNoDouble-from_test (first ∷ others) none (suc i) (suc j) name at again =
    ap suc (HasNoDouble-from_test others (or_parts _ _ none).1 i j name at again)

-- a name behind the first is not the first
differs : (answer : Bool) (first : List ℕ) (others : List (List ℕ)) (k : ℕ) (d : List ℕ) → HasNoDouble (first ∷ others) → k < length others
    → bytes_eq (get_or others k d) first ≡ answer → answer ≡ false
differs false first others k d distinct within is = refl
differs true first others k d distinct within is =
    let same : get_or others k d ≡ first = (bytes_eq-Decides (get_or others k d) first).0 is in
    let at : name_at others k ≡ Some first = slice_get-get_or others k d within ∙ ap Some same in
    let never : 0 ≡ suc k = distinct 0 (suc k) first refl at in
    absurd (omega arith)

pub has_double-HasNoDouble : (names : List (List ℕ)) → HasNoDouble names → has_double names ≡ false
has_double-HasNoDouble [] distinct = refl
has_double-HasNoDouble (first ∷ others) distinct =
    or_from _ _
    (list_any_none (λ other. bytes_eq other first) others (λ k d within. differs (bytes_eq (get_or others k d) first) first others k d distinct within refl))
    (has_double-HasNoDouble others (λ i j name at again. let next : suc i ≡ suc j = distinct (suc i) (suc j) name at again in omega arith))

-- a name without bytes is the empty one
empty_is : (name : List ℕ) → (length name == 0) ≡ true → name ≡ []
empty_is [] none = refl
empty_is (x ∷ name) none = let no : length (x ∷ name) ≡ 0 = eqb-true (length (x ∷ name)) 0 none in absurd (omega arith)

-- the empty name stands there
pub Contains-from_test : (names : List (List ℕ)) → has_empty_name names ≡ true → Contains names []
Contains-from_test names found =
    let place = Any-from_list_any (λ (name : List ℕ). length name == 0) names found in
    let empty = empty_is place.1 place.4 in
    (place.0, place.2, rw empty at place.3)

pub has_empty_name-Contains : (names : List (List ℕ)) → Contains names [] → has_empty_name names ≡ true
has_empty_name-Contains names place = list_any_at (λ (name : List ℕ). length name == 0) names place.0 [] place.1 (rw place.2 refl)

-- no test finds a fault
pub record Passes (names : List (List ℕ)) : Type 0 where
  pub some : (length names == 0) ≡ false
  pub few : nat_lt 16 (length names) ≡ false
  pub short : has_too_long names ≡ false
  pub single : has_double names ≡ false
  pub has_empty : has_empty_name names ≡ true

passed : (test : Bool) (fault : CatalogueFault) (rest : Option CatalogueFault) → (if test then Some fault else rest) ≡ None → (test ≡ false) × (rest ≡ None)
passed false fault rest none = (refl, none)
passed true fault rest none = cc

last_passed : (test : Bool) (fault : CatalogueFault) → (if test then None else Some fault) ≡ None → test ≡ true
last_passed false fault none = cc
last_passed true fault none = refl

pub all_pass : (names : List (List ℕ)) → fault_in names ≡ None → Passes names
all_pass names none =
    let first = passed (length names == 0) NoNames _ none in
    let second = passed (nat_lt 16 (length names)) TooMany _ first.1 in
    let third = passed (has_too_long names) TooLong _ second.1 in
    let fourth = passed (has_double names) TwiceListed _ third.1 in
    record {
      some = first.0;
      few = second.0;
      short = third.0;
      single = fourth.0;
      has_empty = last_passed (has_empty_name names) NoEmptyName fourth.1;
    }

-- names without a fault are a catalogue, and no others are
pub IsCatalogue-from_none : (names : List (List ℕ)) → fault_in names ≡ None → IsCatalogue names
IsCatalogue-from_none names none =
    let passes = all_pass names none in
    record {
      some = grind (arith, nat_tests, passes.some);
      few = ltb-false 16 (length names) passes.few;
      short = All-from_test names passes.short;
      distinct = HasNoDouble-from_test names passes.single;
      has_empty = Contains-from_test names passes.has_empty;
    }

pub fault_in-IsCatalogue : (names : List (List ℕ)) → IsCatalogue names → fault_in names ≡ None
fault_in-IsCatalogue names is =
    let some : (length names == 0) ≡ false = grind (arith, nat_tests, is.some) in
    let few : nat_lt 16 (length names) ≡ false = grind (arith, nat_tests, is.few) in
    rw (some, few, has_too_long-All names is.short, has_double-HasNoDouble names is.distinct, has_empty_name-Contains names is.has_empty) refl

-- before its slot a name does not stand
differs_before : (answer : Bool) (names : List (List ℕ)) (name : List ℕ) (i k : ℕ) → HasNoDouble names → name_at names i ≡ Some name
    → i < length names → k < i → bytes_eq name (get_or names k []) ≡ answer → answer ≡ false
differs_before false names name i k distinct at within below is = refl
differs_before true names name i k distinct at within below is =
    let same : name ≡ get_or names k [] = (bytes_eq-Decides name (get_or names k [])).0 is in
    let here : name_at names k ≡ Some name = slice_get-get_or names k [] (omega arith) ∙ ap Some (sym same) in
    let never : k ≡ i = distinct k i name here at in
    absurd (omega arith)

-- a name and its slot lead to one another
pub slot_of-name_at : (names : List (List ℕ)) (name : List ℕ) (i : ℕ) → HasNoDouble names → name_at names i ≡ Some name → slot_of names name ≡ Some i
slot_of-name_at names name i distinct at =
    let within : i < length names = slice_get_within names i name at in
    let here : get_or names i [] ≡ name = get_or_from_slice_get names i name [] at in
    let first : position_or_len (bytes_eq name) names ≡ i =
    position_or_len_is (bytes_eq name) names i [] (omega arith)
    (λ k below. differs_before (bytes_eq name (get_or names k [])) names name i k distinct at within below refl)
    (λ _. (bytes_eq-Decides name (get_or names i [])).1 (sym here)) in
    rw (first, lt-ltb i (length names) within) refl

pub name_at-slot_of : (names : List (List ℕ)) (name : List ℕ) (i : ℕ) → slot_of names name ≡ Some i → name_at names i ≡ Some name
name_at-slot_of names name i is =
    let found = position-Some (bytes_eq name) names i [] is in
    let same : name ≡ get_or names i [] = (bytes_eq-Decides name (get_or names i [])).0 found.1 in
    slice_get-get_or names i [] found.0 ∙ ap Some (sym same)
