-- The statuses that a desk keeps, and who depends on whom.
use Rattle.std.proofs.Common.{◌≡◌, ℕ, ◌+◌, ◌-◌, ◌*◌, ◌%◌, ◌^◌, ◌<◌, ◌≤◌, ◌==◌, Bool, true, false, if◌then◌else◌, Option, List, get_or, set, length}
use Rattle.std.proofs.Common.{refl, sym, ap, ◌∙◌, w16, bit_and, bit_or, inl, inr, ◌⊎◌, arith}
use Rattle.std.proofs.lemmas.Bool.{eqb-true, eqb-false, cases_lt}
use Rattle.std.proofs.lemmas.List.{get_or-set_same, get_or-set_other}
use Rattle.std.proofs.lemmas.Nat.Bits.{bit_at_set_same, bit_at_set_other, bit_at_clear_same, bit_at_clear_other}
use Rattle.probe_core.specs.declared.rule.Rule.{Rule}
use Rattle.desk_core.specs.Status.{has_slot}
use Rattle.desk_core.specs.Cache.{relies_on}

-- a mask with one slot more
pub slot_in : (mask number slot : ℕ) (is_in : Bool) → number ≡ slot → slot < 16 → is_in ≡ true
    → (i : ℕ) → i < 16 → has_slot (bit_or mask (1 * 2 ^ number % 65536)) i ≡ (if i == slot then is_in else has_slot mask i)
slot_in mask number slot is_in same few is i below = ap (λ k. has_slot (bit_or mask (1 * 2 ^ k % 65536)) i) same ∙ by_test (i == slot) refl
  where
    by_test : (b : Bool) → (i == slot) ≡ b → has_slot (bit_or mask (1 * 2 ^ slot % 65536)) i ≡ (if b then is_in else has_slot mask i)
    by_test true at =
        ap (λ k. has_slot (bit_or mask (1 * 2 ^ slot % 65536)) k) (eqb-true i slot at) ∙ ap (λ b. b == 1) (bit_at_set_same w16 mask slot few) ∙ sym is
    by_test false at = ap (λ b. b == 1) (bit_at_set_other w16 mask slot few i (eqb-false i slot at))

-- a mask without one slot
pub slot_out : (mask number slot : ℕ) (is_in : Bool) → number ≡ slot → slot < 16 → is_in ≡ false
    → (i : ℕ) → i < 16 → has_slot (bit_and mask (65535 - 1 * 2 ^ number % 65536)) i ≡ (if i == slot then is_in else has_slot mask i)
slot_out mask number slot is_in same few is i below = ap (λ k. has_slot (bit_and mask (65535 - 1 * 2 ^ k % 65536)) i) same ∙ by_test (i == slot) refl
  where
    by_test : (b : Bool) → (i == slot) ≡ b → has_slot (bit_and mask (65535 - 1 * 2 ^ slot % 65536)) i ≡ (if b then is_in else has_slot mask i)
    by_test true at =
        ap (λ k. has_slot (bit_and mask (65535 - 1 * 2 ^ slot % 65536)) k) (eqb-true i slot at) ∙ ap (λ b. b == 1) (bit_at_clear_same w16 mask slot few) ∙ sym is
    by_test false at = ap (λ b. b == 1) (bit_at_clear_other w16 mask slot few i below (eqb-false i slot at))

-- the masks below the n-th say that one slot's rule is another, and the others are as they were
pub record Relating (slot : ℕ) (rule : Option Rule) (old now : List ℕ) (n : ℕ) : Type 0 where
  pub done : (i j : ℕ) → i < 16 → j < n → has_slot (get_or now j 0) i ≡ (if i == slot then relies_on rule j else has_slot (get_or old j 0) i)
  pub others : (j : ℕ) → n ≤ j → get_or now j 0 ≡ get_or old j 0

pub relating_none : (slot : ℕ) (rule : Option Rule) (old : List ℕ) → Relating slot rule old old 0
relating_none slot rule old = record { done = λ i j few below. absurd (omega (arith, below)); others = λ j past. refl }

pub relating_more : (slot : ℕ) (rule : Option Rule) (old now new : List ℕ) (n mask : ℕ) → Relating slot rule old now n → n < length now
    → new ≡ set now n mask
    → ((i : ℕ) → i < 16 → has_slot mask i ≡ (if i == slot then relies_on rule n else has_slot (get_or now n 0) i))
    → Relating slot rule old new (n + 1)
relating_more slot rule old now new n mask until within is marked = record {
  done = λ i j few below. by_place i j few (cases_lt j n) below;
  others = λ j past. ap (λ xs. get_or xs j 0) is ∙ get_or-set_other now n j mask 0 (λ same. omega (arith, same, past)) ∙ until.others j (omega (arith, past));
}
  where
    by_place : (i j : ℕ) → i < 16 → (j < n) ⊎ (n ≤ j) → j < n + 1 → has_slot (get_or new j 0) i ≡ (if i == slot then relies_on rule j else has_slot (get_or old j 0) i)
    by_place i j few (inl before) below =
        ap (λ xs. has_slot (get_or xs j 0) i) is
        ∙ ap (λ m. has_slot m i) (get_or-set_other now n j mask 0 (λ same. omega (arith, same, before)))
        ∙ until.done i j few before
    by_place i j few (inr past) below =
        let same : j ≡ n = omega (arith, past, below) in
        ap (λ xs. has_slot (get_or xs j 0) i) is
        ∙ ap (λ k. has_slot (get_or (set now n mask) k 0) i) same
        ∙ ap (λ m. has_slot m i) (get_or-set_same now n mask 0 within)
        ∙ marked i few
        ∙ ap (λ m. if i == slot then relies_on rule n else has_slot m i) (until.others n (omega arith))
        ∙ ap (λ k. if i == slot then relies_on rule k else has_slot (get_or old k 0) i) (sym same)
