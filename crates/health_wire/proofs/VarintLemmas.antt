use Rattle.std.proofs.Common.{◌≡◌, ℕ, ◌+◌, ◌-◌, ◌*◌, ◌%◌, ◌^◌, ◌<◌, List, [], ◌∷◌, ◌++◌, length, reverse, refl, sym, ap, ◌∙◌, arith}
use Rattle.std.specs.List.{fold}
use Rattle.std.proofs.Math.Nat.{mod-add-mod}
use Rattle.std.proofs.lemmas.Nat.{mul-mod_first}
use Rattle.std.proofs.lemmas.List.{reverse-append}
use Rattle.std.proofs.lemmas.List.Sums.{fold-append}
use Rattle.std.proofs.Common.{inl, inr}
use Rattle.std.proofs.lemmas.Bool.{cases_lt}
use Rattle.health_wire.specs.declared.fault.WireFault.{WireFault}
use Rattle.health_wire.proofs.FrontLemmas.{byte_of_front, front_within, one_split}
use Rattle.health_wire.specs.Varint.{IsVarintForm, IsVarint, IsVarintFault, groups_value}
use Rattle.health_wire.specs.Varint.IsVarintFault.{Cut, Endless}

-- one more group, below the groups that are read already, as 64 bits hold it
abbrev pub onto : ℕ → ℕ → ℕ
onto high byte = (high * 128 % 2 ^ 64 + byte % 128) % 2 ^ 64

onto_mod : (high low m : ℕ) → (high % m * 128 % m + low) % m ≡ (low + 128 * high) % m
onto_mod high low m =
    rw (mul-mod_first high 128 m) (mod-add-mod (high * 128) m low ∙ ap (λ n. n % m) (omega arith))

-- reading the groups from the last one on gives their value
pub fold-onto : (bytes : List ℕ) → fold onto 0 (reverse bytes) ≡ groups_value bytes % 2 ^ 64
fold-onto [] = refl
fold-onto (byte ∷ bytes) =
    ap (fold onto 0) (reverse-append (byte ∷ []) bytes)
    ∙ fold-append onto 0 (reverse bytes) (byte ∷ [])
    ∙ ap (λ high. onto high byte) (fold-onto bytes)
    ∙ onto_mod (groups_value bytes) (byte % 128) (2 ^ 64)

-- no varint begins a longer one
not_longer : (a b x y : List ℕ) → IsVarintForm a → IsVarintForm b → a ++ x ≡ b ++ y → length a < length b → ⊥
not_longer a b x y form_a form_b same shorter =
    let k = length a - 1 in
    let within : length a - 1 < length a = omega (arith, form_a.some) in
    let byte_a = byte_of_front (a ++ x) a x (length a - 1) refl within in
    let byte_b = byte_of_front (a ++ x) b y (length a - 1) same (omega arith) in
    omega (arith, form_a.ends, form_b.continues (length a - 1) (omega (arith, form_a.some)), byte_a, byte_b)

pub one_form : (a b x y : List ℕ) → IsVarintForm a → IsVarintForm b → a ++ x ≡ b ++ y → (a ≡ b) × (x ≡ y)
one_form a b x y form_a form_b same =
    one_split a b x y
    (elim (cases_lt (length a) (length b)) [
      | inl below ↦ absurd (not_longer a b x y form_a form_b same below)
      | inr above ↦ elim (cases_lt (length b) (length a)) [
        | inl below ↦ absurd (not_longer b a y x form_b form_a (sym same) below)
        | inr same_len ↦ omega arith
      ]
    ])
    same

-- at most one varint stands at the front, with one value
pub one_varint : (a b x y : List ℕ) (m n : ℕ) → IsVarint a m → IsVarint b n → a ++ x ≡ b ++ y → (m ≡ n) × (x ≡ y)
one_varint a b x y m n is_a is_b same =
    let parts = one_form a b x y is_a.form is_b.form same in (
      is_a.value_is ∙ ap (λ xs. groups_value xs % 2 ^ 64) parts.0 ∙ sym is_b.value_is,
      parts.1,
    )

-- where there is a fault, there is no varint
pub no_varint : (bytes front rest : List ℕ) (value : ℕ) {fault : WireFault} → IsVarintFault bytes fault → bytes ≡ front ++ rest → IsVarint front value → ⊥
no_varint bytes front rest value (Cut few goes_on) parts is =
    let form = is.form in
    let within = front_within bytes front rest parts in
    let byte = byte_of_front bytes front rest (length front - 1) parts (omega (arith, form.some)) in
    omega (arith, form.ends, goes_on (length front - 1) (omega (arith, form.some)), byte)
no_varint bytes front rest value (Endless many goes_on) parts is =
    let form = is.form in
    let byte = byte_of_front bytes front rest (length front - 1) parts (omega (arith, form.some)) in
    omega (arith, form.ends, goes_on (length front - 1) (omega (arith, form.some, form.most)), byte)

pub one_varint_fault : (bytes : List ℕ) {f g : WireFault} → IsVarintFault bytes f → IsVarintFault bytes g → f ≡ g
one_varint_fault bytes (Cut few a) (Cut other b) = refl
one_varint_fault bytes (Cut few a) (Endless many b) = absurd (omega arith)
one_varint_fault bytes (Endless many a) (Cut few b) = absurd (omega arith)
one_varint_fault bytes (Endless many a) (Endless other b) = refl
