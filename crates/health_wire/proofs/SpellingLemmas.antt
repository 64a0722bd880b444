use Rattle.std.proofs.Common.{◌≡◌, ℕ, suc, ◌-◌, ◌<◌, ◌≤◌, List, [], ◌∷◌, length, slice_index, refl, sym, ap, subst, ◌∙◌, arith}
use Rattle.health_wire.specs.Varint.{AreBytes, IsShortestVarint, groups_value}

-- the last byte stays where the first is taken away
last_of_rest : (x y : ℕ) (bytes : List ℕ) → slice_index (x ∷ y ∷ bytes) (length (x ∷ y ∷ bytes) - 1) ≡ slice_index (y ∷ bytes) (length (y ∷ bytes) - 1)
last_of_rest x y bytes =
    let long : length (x ∷ y ∷ bytes) - 1 ≡ suc (length bytes) = omega arith in
    let short : length (y ∷ bytes) - 1 ≡ length bytes = omega arith in
    ap (slice_index (x ∷ y ∷ bytes)) long ∙ sym (ap (slice_index (y ∷ bytes)) short)

-- a spelling without its first byte
rest_of_shortest : (x y : ℕ) (bytes : List ℕ) (value : ℕ) → IsShortestVarint (x ∷ y ∷ bytes) value → IsShortestVarint (y ∷ bytes) (groups_value (y ∷ bytes))
rest_of_shortest x y bytes value is = record {
  form = record {
    some = omega arith;
    most = omega (arith, is.form.most);
    continues = λ k below. is.form.continues (suc k) (omega arith);
    ends = rw (← last_of_rest x y bytes) is.form.ends;
  };
  value_is = refl;
  needed = λ more. rw (← last_of_rest x y bytes) (is.needed (omega arith));
}

-- a spelling that ends in a group above 0 has a value above 0
some_value : (y : ℕ) (bytes : List ℕ) → slice_index (y ∷ bytes) (length (y ∷ bytes) - 1) < 128 → 0 < slice_index (y ∷ bytes) (length (y ∷ bytes) - 1) → 0 < groups_value (y ∷ bytes)
some_value y [] small some = omega arith
some_value y (z ∷ bytes) small some =
    omega (arith, some_value z bytes (rw (← last_of_rest y z bytes) small) (rw (← last_of_rest y z bytes) some))

-- so a longer spelling has a value of 128 or more
long_value : (x y : ℕ) (bytes : List ℕ) (value : ℕ) → IsShortestVarint (x ∷ y ∷ bytes) value → 128 ≤ value
long_value x y bytes value is =
    let ends = rw (last_of_rest x y bytes) at is.form.ends in
    let some = rw (last_of_rest x y bytes) at (is.needed (omega arith)) in
    omega (arith, is.value_is, some_value y bytes ends some)

-- a value has one shortest spelling
pub one_spelling : (a b : List ℕ) (value : ℕ) → AreBytes a → AreBytes b → IsShortestVarint a value → IsShortestVarint b value → a ≡ b
one_spelling [] b value bytes_a bytes_b is_a is_b = absurd (omega (arith, is_a.form.some))
one_spelling (x ∷ a) [] value bytes_a bytes_b is_a is_b = absurd (omega (arith, is_b.form.some))
one_spelling (x ∷ []) (z ∷ []) value bytes_a bytes_b is_a is_b =
    let same : x ≡ z = omega (arith, is_a.value_is, is_b.value_is, is_a.form.ends, is_b.form.ends) in
    ap (λ byte. byte ∷ []) same
one_spelling (x ∷ []) (z ∷ w ∷ b) value bytes_a bytes_b is_a is_b = absurd (omega (arith, is_a.value_is, is_a.form.ends, long_value z w b value is_b))
one_spelling (x ∷ y ∷ a) (z ∷ []) value bytes_a bytes_b is_a is_b = absurd (omega (arith, is_b.value_is, is_b.form.ends, long_value x y a value is_a))
one_spelling (x ∷ y ∷ a) (z ∷ w ∷ b) value bytes_a bytes_b is_a is_b =
    let first : x ≡ z = omega (arith, is_a.value_is, is_b.value_is, is_a.form.continues 0 (omega arith), is_b.form.continues 0 (omega arith), bytes_a 0, bytes_b 0) in
    let more : groups_value (w ∷ b) ≡ groups_value (y ∷ a) = omega (arith, is_a.value_is, is_b.value_is) in
    let P : ℕ → Type 0 = λ n. IsShortestVarint (w ∷ b) n in
    let others = one_spelling (y ∷ a) (w ∷ b) (groups_value (y ∷ a)) (λ k. bytes_a (suc k)) (λ k. bytes_b (suc k)) (rest_of_shortest x y a value is_a)
    (subst P more (rest_of_shortest z w b value is_b)) in
    ap (λ byte. byte ∷ y ∷ a) first ∙ ap (λ bytes. z ∷ bytes) others
