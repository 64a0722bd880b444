-- The mask of some words' slots, one word after another.
use Rattle.std.proofs.Common.{ℕ, ◌≡◌, ◌+◌, ◌*◌, ◌%◌, ◌^◌, ◌<◌, ◌↔◌, List, [], ◌∷◌, ◌++◌, length, get_or, take, true, Any, Some, None, Option, IsSome}
use Rattle.std.proofs.Common.{length-append, refl, sym, ap, ◌∙◌, subst, arith, ⊎_elim, Bor, ◌==◌, w16, ◌≤◌, bit_or}
use Rattle.std.specs.Int.{bit_at}
use Rattle.std.proofs.lemmas.Bool.{cases_lt, cases_eq, eqb-true, eq-eqb}
use Rattle.std.proofs.lemmas.List.{get_or_append_left, get_or_at, map_more, length-map, get_or-map}
use Rattle.std.proofs.lemmas.List.Elements.{All-push}
use Rattle.std.proofs.lemmas.List.Quantifiers.{Any-push}
use Rattle.std.proofs.lemmas.Nat.{or_lt}
use Rattle.std.proofs.lemmas.Nat.Bits.{bit_at_set_same, bit_at_set_other, bit_at-zero}
use Rattle.desk_core.specs.Catalogue.{slot_of}
use Rattle.desk_core.specs.Status.{has_slot}
use Rattle.script.specs.Line.{IsMaskOf}
use Rattle.script.specs.TextLines.{texts}
use Rattle.script.specs.Word.{name_of}

-- what holds of one of the elements holds of one of more
any_more : {X : Type 0} (P : X → Type 0) (xs : List X) (y : X) → Any P xs → Any P (xs ++ y ∷ [])
any_more P xs y (k, x, below, is, holds) = (k, x, omega (arith, length-append xs (y ∷ [])), get_or_append_left xs (y ∷ []) x k below ∙ is, holds)

-- and if not of the last one, of one of the others
any_less : {X : Type 0} (P : X → Type 0) (xs : List X) (y : X) → ¬ P y → Any P (xs ++ y ∷ []) → Any P xs
any_less {X} P xs y not (k, x, below, is, holds) =
    ⊎_elim (λ (front : k < length xs). (k, x, front, sym (get_or_append_left xs (y ∷ []) x k front) ∙ is, holds))
    (λ (past : length xs ≤ k).
    let at : length xs ≡ k = omega (arith, length-append xs (y ∷ [])) in
    let same : x ≡ y = sym is ∙ get_or_at xs y [] x k at in
    absurd (not (subst P same holds)))
    (cases_lt k (length xs))

-- no words have no slots
pub no_words : (names : List (List ℕ)) → IsMaskOf names [] 0
no_words names =
    record {
      listed = λ k d below. absurd (omega arith);
      bits = λ slot. (λ has. absurd (no_bit slot has), λ any. absurd (omega (arith, any.2)));
      fits = omega arith;
    }
  where
    no_bit : (slot : ℕ) → has_slot 0 slot ≡ true → ⊥
    no_bit slot has = let none : bit_at 0 slot ≡ 0 = bit_at-zero slot in omega (arith, eqb-true (bit_at 0 slot) 1 has)

-- the bit of the word's slot
set_slot : (names words : List (List ℕ)) (word : List ℕ) (mask slot : ℕ) → slot_of names (name_of word) ≡ Some slot → slot < 16
    → (has_slot (bit_or mask (1 * 2 ^ slot % 2 ^ 16)) slot ≡ true) ↔ Any (λ other. slot_of names (name_of other) ≡ Some slot) (words ++ word ∷ [])
set_slot names words word mask slot at within =
    (λ has. Any-push (λ other. slot_of names (name_of other) ≡ Some slot) words word at, λ any. eq-eqb _ 1 (bit_at_set_same w16 mask slot within))

-- the bit of another slot
kept_slot : (names words : List (List ℕ)) (word : List ℕ) (mask slot i : ℕ) → slot_of names (name_of word) ≡ Some slot → slot < 16 → (i ≡ slot → ⊥)
    → (has_slot mask i ≡ true) ↔ Any (λ other. slot_of names (name_of other) ≡ Some i) words
    → (has_slot (bit_or mask (1 * 2 ^ slot % 2 ^ 16)) i ≡ true) ↔ Any (λ other. slot_of names (name_of other) ≡ Some i) (words ++ word ∷ [])
kept_slot names words word mask slot i at within other bits =
    let same : has_slot (bit_or mask (1 * 2 ^ slot % 2 ^ 16)) i ≡ has_slot mask i = ap (λ (n : ℕ). n == 1) (bit_at_set_other w16 mask slot within i other) in
    let not : ¬ (slot_of names (name_of word) ≡ Some i) = λ here. other (let e : Some i ≡ Some slot = sym here ∙ at in cc) in (
      λ has. any_more (λ other. slot_of names (name_of other) ≡ Some i) words word (bits.0 (sym same ∙ has)),
      λ any. same ∙ bits.1 (any_less (λ other. slot_of names (name_of other) ≡ Some i) words word not any),
    )

-- one word more sets the bit of its slot
pub one_more : (names words : List (List ℕ)) (word : List ℕ) (mask slot : ℕ) → IsMaskOf names words mask → slot_of names (name_of word) ≡ Some slot → slot < 16
    → IsMaskOf names (words ++ word ∷ []) (bit_or mask (1 * 2 ^ slot % 2 ^ 16))
one_more names words word mask slot is at within =
    record {
      listed = All-push (λ other. IsSome (slot_of names (name_of other))) words word is.listed (subst (λ (found : Option ℕ). IsSome found) (sym at) refl);
      bits = λ i. ⊎_elim (λ (same : i ≡ slot). subst
          (λ (place : ℕ). (has_slot (bit_or mask (1 * 2 ^ slot % 2 ^ 16)) place ≡ true)
          ↔ Any (λ other. slot_of names (name_of other) ≡ Some place) (words ++ word ∷ [])) (sym same)
          (set_slot names words word mask slot at within))
          (λ (other : i ≡ slot → ⊥). kept_slot names words word mask slot i at within other (is.bits i))
          (cases_eq i slot);
      fits = or_lt 16 mask (1 * 2 ^ slot % 2 ^ 16) is.fits (omega arith);
    }

-- the same of the words up to a place
pub next_word : (names : List (List ℕ)) (words : List (Bor (List ℕ))) (default : Bor (List ℕ)) (name : List ℕ) (i mask slot number : ℕ) → i < length words → IsMaskOf names (texts (take i words)) mask
    → name ≡ name_of (get_or words i default).now → Some slot ≡ slot_of names name → number ≡ slot → number < 16 → IsMaskOf names (texts (take (i + 1) words)) (bit_or mask (1 * 2 ^ number % 2 ^ 16))
next_word names words default name i mask slot number below is named at same within =
    let here : slot_of names (name_of (get_or words i default).now) ≡ Some number = ap (slot_of names) (sym named) ∙ sym at ∙ ap Some (sym same) in
    rw (map_more (λ (word : Bor (List ℕ)). word.now) words i default below) (one_more names (texts (take i words)) (get_or words i default).now mask number is here within)

-- words with a name that is not listed have no mask
pub not_listed : (names : List (List ℕ)) (words : List (Bor (List ℕ))) (default : Bor (List ℕ)) (name : List ℕ) (i : ℕ) → i < length words → name ≡ name_of (get_or words i default).now
    → None ≡ slot_of names name → (mask : ℕ) → ¬ IsMaskOf names (texts words) mask
not_listed names words default name i below named none mask is =
    let at : IsSome (slot_of names (name_of (get_or (texts words) i []))) = is.listed i [] (rw (length-map words (λ (word : Bor (List ℕ)). word.now)) below) in
    let same : get_or (texts words) i [] ≡ (get_or words i default).now = get_or-map (λ (word : Bor (List ℕ)). word.now) words i default [] below in
    let missing : slot_of names (name_of (get_or (texts words) i [])) ≡ None = ap (λ (word : List ℕ). slot_of names (name_of word)) same ∙ ap (slot_of names) (sym named) ∙ sym none in
    let found : IsSome {T = ℕ} None = subst (λ (found : Option ℕ). IsSome found) missing at in
    cc
