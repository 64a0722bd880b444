use Rattle.std.proofs.Common.{◌≡◌, ℕ, ◌+◌, ◌-◌, ◌*◌, ◌/◌, ◌%◌, ◌^◌, ◌<◌, ◌≤◌, List, [], ◌∷◌, ◌++◌, length, sym, ap, ◌∙◌, inl, inr, arith, append_assoc}
use Rattle.std.proofs.Math.Nat.{mul-le-mul_right, div-mul-le_self}
use Rattle.std.proofs.Math.Pow.{pow-lt}
use Rattle.std.proofs.lemmas.Bool.{cases_lt}
use Rattle.std.proofs.lemmas.List.{get_or_append_left, get_or_push, length_push}
use Rattle.std.proofs.lemmas.Nat.{pow-add}
use Rattle.health_wire.specs.Parts.{Appends}
use Rattle.health_wire.specs.Varint.{AllContinue, IsShortestVarint, groups_value}

-- the groups that were put so far, and the rest of the value, which is still to put
pub record HasPut (old out : List ℕ) (value rest : ℕ) : Type 0 where
  pub front : List ℕ
  pub out_is : out ≡ old ++ front
  pub continues : AllContinue front (length front)
  pub value_is : (tail : List ℕ) → groups_value tail ≡ rest → groups_value (front ++ tail) ≡ value
  pub needed : 0 < length front → 0 < rest
  pub bound : rest * 2 ^ (7 * length front) ≤ value

less_left : (rest value n : ℕ) → rest * 2 ^ (7 * n) ≤ value → rest / 128 * 2 ^ (7 * (n + 1)) ≤ value
less_left rest value n bound =
    let power : 2 ^ (7 * (n + 1)) ≡ 2 ^ (7 * n) * 128 = ap (λ k. 2 ^ k) (let e : 7 * (n + 1) ≡ 7 * n + 7 = omega arith in e) ∙ pow-add 2 (7 * n) 7 in
    let below = mul-le-mul_right (2 ^ (7 * n)) (div-mul-le_self rest 128) in
    rw power (omega (arith, below, bound))

-- at most nine groups go before the last
few_left : (rest value n : ℕ) → rest * 2 ^ (7 * n) ≤ value → 1 ≤ rest → value < 2 ^ 64 → n < 10
few_left rest value n bound some fits =
    elim (cases_lt n 10) [
      | inl few ↦ few
      | inr many ↦
          let long = pow-lt {i = 64} {j = 7 * n} (omega arith) in
          let one = mul-le-mul_right (2 ^ (7 * n)) some in
          absurd (omega (arith, long, one, bound, fits))
    ]

continues_more : (front : List ℕ) (byte : ℕ) → AllContinue front (length front) → 128 ≤ byte → AllContinue (front ++ byte ∷ []) (length (front ++ byte ∷ []))
continues_more front byte continues high k below =
    elim (cases_lt k (length front)) [
      | inl before ↦ omega (arith, get_or_append_left front (byte ∷ []) 0 k before, continues k before)
      | inr past ↦ omega (arith, get_or_push front byte 0 k (omega (arith, length_push front byte)), high)
    ]

pub put_more : (old out new : List ℕ) (value rest : ℕ) → 128 ≤ rest → new ≡ out ++ (rest % 128 + 128) ∷ [] → HasPut old out value rest → HasPut old new value (rest / 128)
put_more old out new value rest many new_is put =
    let byte = rest % 128 + 128 in
    let len : length (put.front ++ (rest % 128 + 128) ∷ []) ≡ length put.front + 1 = length_push put.front (rest % 128 + 128) in
    record {
      front = put.front ++ (rest % 128 + 128) ∷ [];
      out_is = new_is ∙ ap (λ xs. xs ++ (rest % 128 + 128) ∷ []) put.out_is ∙ append_assoc old put.front ((rest % 128 + 128) ∷ []);
      continues = continues_more put.front (rest % 128 + 128) put.continues (omega arith);
      value_is = λ tail is. ap groups_value (append_assoc put.front ((rest % 128 + 128) ∷ []) tail) ∙ put.value_is ((rest % 128 + 128) ∷ tail) (omega (arith, is));
      needed = λ _. omega arith;
      bound = rw len (less_left rest value (length put.front) put.bound);
    }

pub put_last : (old out new : List ℕ) (value rest : ℕ) → value < 2 ^ 64 → rest < 128 → new ≡ out ++ rest ∷ [] → HasPut old out value rest → Appends (λ varint. IsShortestVarint varint value) old new
put_last old out new value rest fits few new_is put =
    let len : length (put.front ++ rest ∷ []) ≡ length put.front + 1 = length_push put.front rest in
    let last = get_or_push put.front rest 0 (length (put.front ++ rest ∷ []) - 1) (omega arith) in (
      put.front ++ rest ∷ [],
      new_is ∙ ap (λ xs. xs ++ rest ∷ []) put.out_is ∙ append_assoc old put.front (rest ∷ []),
      record {
        form = record {
          some = omega arith;
          most =
              elim (cases_lt 0 (length put.front)) [
                | inl some ↦ omega (arith, few_left rest value (length put.front) put.bound (put.needed some) fits)
                | inr none ↦ omega arith
              ];
          continues = λ k below.
              let before : k < length put.front = omega arith in
              omega (arith, get_or_append_left put.front (rest ∷ []) 0 k before, put.continues k before);
          ends = omega arith;
        };
        value_is = sym (put.value_is (rest ∷ []) (omega arith));
        needed = λ more. omega (arith, put.needed (omega arith));
      },
    )
