-- Statuses in one word, two bits each.
use Rattle.std.proofs.Common.{◌≡◌, ◌≢◌, ℕ, zero, suc, ◌+◌, ◌-◌, ◌*◌, ◌/◌, ◌%◌, ◌^◌, ◌<◌, ◌≤◌, ◌==◌, Bool, true, false, if◌then◌else◌, Option, None}
use Rattle.std.proofs.Common.{Some, refl, sym, ap, ◌∙◌, inl, inr, ◌⊎◌, add_comm, mul_comm, arith}
use Rattle.std.proofs.Math.Nat.{mul_assoc, pow-le-pow_right, pow-suc, mul-le-mul_right, mod-one, div-eq_of_lt, add-mul-div_right}
use Rattle.std.proofs.Math.Arith.{mod-mul}
use Rattle.std.proofs.lemmas.Nat.{pow-add, pow_pos, mul-pow}
use Rattle.std.proofs.lemmas.Bool.{eqb-true, eq-eqb, cases_lt}
use Rattle.health_wire.specs.declared.serving.Serving.{Serving}
use Rattle.health_wire.specs.declared.serving.Serving.TheVariants.{Unknown, NotServing, ServiceUnknown, Serving as IsServing}
use Rattle.desk_core.specs.Board.{code_of, packed, status_of_code, status_in}
use Rattle.desk_core.specs.Slots.{with_status}

-- the same statuses are packed alike
pub packed_same : (f g : ℕ → Option Serving) (n : ℕ) → ((i : ℕ) → i < n → f i ≡ g i) → packed f n ≡ packed g n
unfolding packed
packed_same f g zero same = refl
packed_same f g (suc n) same =
    ap (λ k. k + code_of (f n) * 4 ^ n) (packed_same f g n (λ i below. same i (omega arith)))
    ∙ ap (λ o. packed g n + code_of o * 4 ^ n) (same n (omega arith))

-- a slot's place in the word, counted in bits
pub four_is : (i : ℕ) → 2 ^ (2 * i) ≡ 4 ^ i
four_is i = let twice : 2 * i ≡ i + i = omega arith in rw twice (pow-add 2 i i ∙ sym (mul-pow 2 2 i))

four_pos : (n : ℕ) → 0 < 4 ^ n
four_pos n = rw (← four_is n) (pow_pos (2 * n))

-- a slot's weight in the word, as a shift makes it
pub weight_is : (number i : ℕ) → number ≡ i → i < 16 → 1 * 2 ^ (2 * number) % 4294967296 ≡ 4 ^ i
weight_is number i is few =
    let small : 4 ^ i ≤ 1073741824 = pow-le-pow_right {n = 4} (omega arith) {i = i} {j = 15} (omega arith) in
    ap (λ k. 1 * 2 ^ (2 * k) % 4294967296) is ∙ ap (λ w. 1 * w % 4294967296) (four_is i) ∙ omega (arith, small)

pub weight_small : (i : ℕ) → i < 16 → 4 ^ i ≤ 1073741824
weight_small i few = pow-le-pow_right {n = 4} (omega arith) {i = i} {j = 15} (omega arith)

-- a code is one of four
code_small : (status : Option Serving) → code_of status ≤ 3
code_small None = omega arith
code_small (Some IsServing) = omega arith
code_small (Some NotServing) = omega arith
code_small (Some Unknown) = omega arith
code_small (Some ServiceUnknown) = omega arith

pub part_small : (code weight : ℕ) → code ≤ 3 → code * weight ≤ 3 * weight
part_small code weight small = mul-le-mul_right weight small

code_of_code : (code : ℕ) → code < 4 → code_of (status_of_code code) ≡ code
code_of_code zero small = refl
code_of_code (suc zero) small = refl
code_of_code (suc (suc zero)) small = refl
code_of_code (suc (suc (suc n))) small = omega (arith, small)

-- the code of a slot's status stands in the word
pub code_in : (word i : ℕ) → code_of (status_in word i) ≡ word / 4 ^ i % 4
code_in word i = code_of_code (word / 4 ^ i % 4) (omega arith)

-- a word is its statuses, packed
word_below : (word n : ℕ) → packed (status_in word) n ≡ word % 4 ^ n
unfolding packed
word_below word zero = sym (mod-one word)
word_below word (suc n) =
    ap (λ k. k + code_of (status_in word n) * 4 ^ n) (word_below word n)
    ∙ ap (λ c. word % 4 ^ n + c * 4 ^ n) (code_in word n)
    ∙ add_comm (word % 4 ^ n) (word / 4 ^ n % 4 * 4 ^ n)
    ∙ sym (ap (λ m. word % m) (pow-suc 4 n ∙ mul_comm (4 ^ n) 4) ∙ mod-mul word {m = 4} {c = 4 ^ n} (omega arith) (four_pos n))

pub word_is : (word : ℕ) → word < 4294967296 → packed (status_in word) 16 ≡ word
word_is word small = word_below word 16 ∙ omega (arith, small)

-- packed statuses fit their place
packed_small : (f : ℕ → Option Serving) (n : ℕ) → packed f n < 4 ^ n
unfolding packed
packed_small f zero = omega arith
packed_small f (suc n) = omega (arith, packed_small f n, part_small (code_of (f n)) (4 ^ n) (code_small (f n)), pow-suc 4 n)

pub packed_fits : (f : ℕ → Option Serving) → packed f 16 < 4294967296
packed_fits f = packed_small f 16

digit_at : (word code n : ℕ) → word < 4 ^ n → code ≤ 3 → (word + code * 4 ^ n) / 4 ^ n % 4 ≡ code
digit_at word code n small few =
    ap (λ k. k % 4) (add-mul-div_right word code (four_pos n) ∙ ap (λ k. k + code) (div-eq_of_lt small)) ∙ omega (arith, few)

digit_below : (word code i d n : ℕ) → n ≡ i + suc d → (word + code * 4 ^ n) / 4 ^ i % 4 ≡ word / 4 ^ i % 4
digit_below word code i d n is =
    let weight : 4 ^ n ≡ 4 ^ d * 4 * 4 ^ i = ap (λ k. 4 ^ k) is ∙ pow-add 4 i (suc d) ∙ ap (λ w. 4 ^ i * w) (pow-suc 4 d) ∙ mul_comm (4 ^ i) (4 ^ d * 4) in
    let parts : code * 4 ^ n ≡ code * 4 ^ d * 4 * 4 ^ i = ap (λ w. code * w) weight ∙ sym (mul_assoc code (4 ^ d * 4) (4 ^ i)) ∙ ap (λ w. w * 4 ^ i) (sym (mul_assoc code (4 ^ d) 4)) in
    ap (λ w. (word + w) / 4 ^ i % 4) parts
    ∙ ap (λ k. k % 4) (add-mul-div_right word (code * 4 ^ d * 4) (four_pos i))
    ∙ omega arith

-- a slot's status on a board is that in its lower half
pub lower_half : (word i : ℕ) → i < 16 → status_in (word % 4294967296) i ≡ status_in word i
lower_half word i few =
    let place : 16 ≡ i + suc (15 - i) = omega (arith, few) in
    let whole : word % 4294967296 + word / 4294967296 * 4294967296 ≡ word = omega arith in
    ap status_of_code (sym (digit_below (word % 4294967296) (word / 4294967296) i (15 - i) 16 place) ∙ ap (λ w. w / 4 ^ i % 4) whole)

-- the code of each packed status is read back
packed_digit : (f : ℕ → Option Serving) (n i : ℕ) → i < n → packed f n / 4 ^ i % 4 ≡ code_of (f i)
unfolding packed
packed_digit f zero i below = absurd (omega (arith, below))
packed_digit f (suc n) i below = by_place (cases_lt i n) (packed_digit f n i)
  where
    by_place : (i < n) ⊎ (n ≤ i) → (i < n → packed f n / 4 ^ i % 4 ≡ code_of (f i)) → (packed f n + code_of (f n) * 4 ^ n) / 4 ^ i % 4 ≡ code_of (f i)
    by_place (inl before) earlier = digit_below (packed f n) (code_of (f n)) i (n - suc i) n (omega (arith, before)) ∙ earlier before
    by_place (inr past) earlier =
        let same : n ≡ i = omega (arith, past, below) in
        ap (λ k. (packed f n + code_of (f n) * 4 ^ n) / 4 ^ k % 4) (sym same)
        ∙ digit_at (packed f n) (code_of (f n)) n (packed_small f n) (code_small (f n))
        ∙ ap (λ k. code_of (f k)) same

-- a status that a slot can have
abbrev pub IsKept : Option Serving → Type 0
IsKept status = status_of_code (code_of status) ≡ status

-- packed statuses are read back
pub status_in_packed : (f : ℕ → Option Serving) (word i : ℕ) → word ≡ packed f 16 → i < 16 → IsKept (f i) → status_in word i ≡ f i
status_in_packed f word i is below kept = ap (λ w. status_in w i) is ∙ ap status_of_code (packed_digit f 16 i below) ∙ kept

with_other : (f : ℕ → Option Serving) (slot i : ℕ) (status : Option Serving) → i ≢ slot → with_status f slot status i ≡ f i
with_other f slot i status other = by_test (i == slot) refl
  where
    by_test : (b : Bool) → (i == slot) ≡ b → (if b then status else f i) ≡ f i
    by_test true is = absurd (other (eqb-true i slot is))
    by_test false is = refl

with_same : (f : ℕ → Option Serving) (slot : ℕ) (status : Option Serving) → with_status f slot status slot ≡ status
with_same f slot status = ap (λ b. if b then status else f slot) (eq-eqb slot slot refl)

-- one slot's code takes the place of another
packed_with : (f : ℕ → Option Serving) (slot n : ℕ) (status : Option Serving) → slot < n
    → packed (with_status f slot status) n + code_of (f slot) * 4 ^ slot ≡ packed f n + code_of status * 4 ^ slot
unfolding packed
packed_with f slot zero status below = absurd (omega (arith, below))
packed_with f slot (suc n) status below = by_place (cases_lt slot n) (packed_with f slot n status)
  where
    g : ℕ → Option Serving
    g = with_status f slot status

    by_place : (slot < n) ⊎ (n ≤ slot) → (slot < n → packed g n + code_of (f slot) * 4 ^ slot ≡ packed f n + code_of status * 4 ^ slot)
        → packed g n + code_of (g n) * 4 ^ n + code_of (f slot) * 4 ^ slot ≡ packed f n + code_of (f n) * 4 ^ n + code_of status * 4 ^ slot
    by_place (inl before) earlier =
        ap (λ o. packed g n + code_of o * 4 ^ n + code_of (f slot) * 4 ^ slot) (with_other f slot n status (λ same. omega (arith, same, before)))
        ∙ omega (arith, earlier before)
    by_place (inr past) earlier =
        let same : n ≡ slot = omega (arith, past, below) in
        let others : packed g n ≡ packed f n = packed_same g f n (λ i less. with_other f slot i status (λ is. omega (arith, is, same, less))) in
        ap (λ k. packed g n + code_of (g k) * 4 ^ k + code_of (f slot) * 4 ^ slot) same
        ∙ ap (λ o. packed g n + code_of o * 4 ^ slot + code_of (f slot) * 4 ^ slot) (with_same f slot status)
        ∙ ap (λ w. w + code_of status * 4 ^ slot + code_of (f slot) * 4 ^ slot) others
        ∙ omega arith
        ∙ ap (λ k. packed f n + code_of (f k) * 4 ^ k + code_of status * 4 ^ slot) (sym same)

-- a word with one slot's code in place of what it had, as it is computed
pub record Replaced (word slot code : ℕ) (after : ℕ) : Type 0 where
  pub part : code * 4 ^ slot ≤ 3 * 1073741824
  pub within : word / 4 ^ slot % 4 * 4 ^ slot ≤ word
  pub is : word - word / 4 ^ slot % 4 * 4 ^ slot + code * 4 ^ slot ≡ after

pub replaced : (word slot code : ℕ) (status : Option Serving) → word < 4294967296 → slot < 16 → code ≡ code_of status
    → Replaced word slot code (packed (with_status (status_in word) slot status) 16)
replaced word slot code status small few code_is =
    let whole = word_is word small in
    let digit = code_in word slot in
    let cleared = packed_with (status_in word) slot 16 None few in
    let given = packed_with (status_in word) slot 16 status few in
    let old : code_of (status_in word slot) * 4 ^ slot ≡ word / 4 ^ slot % 4 * 4 ^ slot = ap (λ c. c * 4 ^ slot) digit in
    let new : code * 4 ^ slot ≡ code_of status * 4 ^ slot = ap (λ c. c * 4 ^ slot) code_is in
    record {
      part = omega (arith, new, part_small (code_of status) (4 ^ slot) (code_small status), weight_small slot few);
      within = omega (arith, whole, old, cleared);
      is = omega (arith, whole, old, cleared, new, given);
    }

-- what is read from a word can stand in a word
kept_in : (word i : ℕ) → IsKept (status_in word i)
kept_in word i = ap status_of_code (code_in word i)

kept_with : (word slot i : ℕ) (status : Option Serving) → IsKept status → IsKept (with_status (status_in word) slot status i)
kept_with word slot i status kept = by_test (i == slot)
  where
    by_test : (b : Bool) → IsKept (if b then status else status_in word i)
    by_test true = kept
    by_test false = kept_in word i

-- after a slot's status was set the slot has it, and the others have theirs
pub read_set : (word new slot i : ℕ) (status : Option Serving) → new ≡ packed (with_status (status_in word) slot status) 16 → IsKept status → i < 16
    → status_in new i ≡ with_status (status_in word) slot status i
read_set word new slot i status is kept few = status_in_packed (with_status (status_in word) slot status) new i is few (kept_with word slot i status kept)

pub read_same : (word new slot : ℕ) (status : Option Serving) → new ≡ packed (with_status (status_in word) slot status) 16 → IsKept status → slot < 16
    → status_in new slot ≡ status
read_same word new slot status is kept few = read_set word new slot slot status is kept few ∙ with_same (status_in word) slot status

pub read_other : (word new slot i : ℕ) (status : Option Serving) → new ≡ packed (with_status (status_in word) slot status) 16 → IsKept status → i < 16 → i ≢ slot
    → status_in new i ≡ status_in word i
read_other word new slot i status is kept few other = read_set word new slot i status is kept few ∙ with_other (status_in word) slot i status other
