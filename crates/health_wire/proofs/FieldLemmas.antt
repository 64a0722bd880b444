use Rattle.std.proofs.Common.{◌≡◌, ◌≢◌, ℕ, ◌+◌, ◌*◌, ◌/◌, ◌%◌, ◌<◌, ◌≤◌, List, [], ◌++◌, length, take, drop, refl, sym, ap, subst, ◌∙◌, arith, length-append, append_assoc}
use Rattle.std.proofs.lemmas.List.{take-append-drop, length-take-le}
use Rattle.std.proofs.Math.Nat.{div-add-mod}
use Rattle.health_wire.specs.declared.fault.WireFault.{WireFault}
use Rattle.health_wire.specs.declared.fault.WireFault.TheVariants.{Truncated, BadTag}
use Rattle.health_wire.specs.Parts.{Begins}
use Rattle.health_wire.proofs.FrontLemmas.{front_within, one_split}
use Rattle.health_wire.proofs.VarintLemmas.{one_varint, no_varint, one_varint_fault}
use Rattle.health_wire.specs.Varint.{IsVarint}
use Rattle.health_wire.specs.Field.{Payload, WireField, wire_type, IsPayload, IsFieldNumber, IsField, BeginsWithTag, IsPayloadFault, IsFieldFault}
use Rattle.health_wire.specs.Field.Payload.{Varint, I64, Len, I32}
use Rattle.health_wire.specs.Field.IsPayloadFault.{NoType, NoVarint, CutI64, NoLen, CutLen, CutI32}
use Rattle.health_wire.specs.Field.IsFieldFault.{NoTag, NoNumber, NoPayload}

-- a varint of a length, and then that many bytes
pub text_found : (bytes rest : List ℕ) (count : ℕ) (text after : List ℕ) → Begins (λ front. IsVarint front count) bytes rest → count ≤ length rest
    → text ≡ take count rest → after ≡ drop count rest → Begins (λ front. IsPayload front (Len text)) bytes after
text_found bytes rest count text after (len, parts, len_is) fits text_is after_is =
    let text_len : length text ≡ count = ap length text_is ∙ length-take-le count rest fits in
    let whole : text ++ after ≡ rest = rw (text_is, after_is) (take-append-drop count rest) in (
      len ++ text,
      parts ∙ ap (λ xs. len ++ xs) (sym whole) ∙ sym (append_assoc len text after),
      (len, refl, rw text_len len_is),
    )

-- a varint of a length, and then fewer bytes
pub text_cut : (bytes rest : List ℕ) (count : ℕ) → Begins (λ front. IsVarint front count) bytes rest → length rest < count → IsPayloadFault bytes 2 Truncated
text_cut bytes rest count begins few = CutLen count rest begins few

-- a wire type that is none of the four
pub no_type : (type_number : ℕ) → type_number ≢ 0 → type_number ≢ 1 → type_number ≢ 2 → type_number ≢ 5 → (payload : Payload) → wire_type payload ≢ type_number
no_type type_number not_0 not_1 not_2 not_5 (Varint value) = λ is. not_0 (sym is)
no_type type_number not_0 not_1 not_2 not_5 (I64 eight) = λ is. not_1 (sym is)
no_type type_number not_0 not_1 not_2 not_5 (Len text) = λ is. not_2 (sym is)
no_type type_number not_0 not_1 not_2 not_5 (I32 four) = λ is. not_5 (sym is)

-- the tag's varint is that of its number and its wire type
tag_is : (front : List ℕ) (tag : ℕ) → IsVarint front tag → IsVarint front (8 * (tag / 8) + tag % 8)
tag_is front tag is = rw (div-add-mod tag 8) is

with_tag : (bytes rest : List ℕ) (tag : ℕ) → Begins (λ front. IsVarint front tag) bytes rest → BeginsWithTag bytes (tag / 8) (tag % 8) rest
with_tag bytes rest tag (front, parts, is) = record { low_bits = omega arith; tag = (front, parts, tag_is front tag is) }

pub number_fault : (bytes rest : List ℕ) (tag : ℕ) → Begins (λ front. IsVarint front tag) bytes rest → (IsFieldNumber (tag / 8) → ⊥) → IsFieldFault bytes BadTag
number_fault bytes rest tag begins none = NoNumber (tag / 8) (tag % 8) rest (with_tag bytes rest tag begins) none

pub payload_fault : (fault : WireFault) (bytes rest : List ℕ) (tag : ℕ) → Begins (λ front. IsVarint front tag) bytes rest → IsFieldNumber (tag / 8)
    → IsPayloadFault rest (tag % 8) fault → IsFieldFault bytes fault
payload_fault fault bytes rest tag begins number none = NoPayload fault (tag / 8) (tag % 8) rest (with_tag bytes rest tag begins) number none

-- a tag and its payload are a field
pub field_found : (bytes after rest : List ℕ) (tag number : ℕ) (payload : Payload) → Begins (λ front. IsVarint front tag) bytes after
    → number ≡ tag / 8 → IsFieldNumber number → wire_type payload ≡ tag % 8 → Begins (λ front. IsPayload front payload) after rest
    → Begins (λ front. IsField front (record { number = number; payload = payload })) bytes rest
field_found bytes after rest tag number payload (front, parts, is) number_is in_range type_is (back, more, payload_is) = (
  front ++ back,
  parts ∙ ap (λ xs. front ++ xs) more ∙ sym (append_assoc front back rest),
  record {
    tag = front;
    rest = back;
    parts = refl;
    tag_is = rw (number_is, type_is) (tag_is front tag is);
    number_is = in_range;
    payload_is = payload_is;
  },
)

-- at most one payload of a wire type stands at the front
pub one_payload : (p q : Payload) (a b x y : List ℕ) → wire_type p ≡ wire_type q → IsPayload a p → IsPayload b q → a ++ x ≡ b ++ y → (p ≡ q) × (x ≡ y)
one_payload (Varint m) (Varint n) a b x y type_is is_a is_b same =
    let one = one_varint a b x y m n is_a is_b same in (ap Varint one.0, one.1)
one_payload (I64 s) (I64 t) a b x y type_is is_a is_b same =
    let one = one_split s t x y (is_a.1 ∙ sym is_b.1) (sym (ap (λ xs. xs ++ x) is_a.0) ∙ same ∙ ap (λ xs. xs ++ y) is_b.0) in (ap I64 one.0, one.1)
one_payload (Len s) (Len t) a b x y type_is (len_a, parts_a, is_a) (len_b, parts_b, is_b) same =
    let regrouped : len_a ++ (s ++ x) ≡ len_b ++ (t ++ y) = sym (append_assoc len_a s x) ∙ sym (ap (λ xs. xs ++ x) parts_a) ∙ same ∙ ap (λ xs. xs ++ y) parts_b ∙ append_assoc len_b t y in
    let lens = one_varint len_a len_b (s ++ x) (t ++ y) (length s) (length t) is_a is_b regrouped in
    let one = one_split s t x y lens.0 lens.1 in (ap Len one.0, one.1)
one_payload (I32 s) (I32 t) a b x y type_is is_a is_b same =
    let one = one_split s t x y (is_a.1 ∙ sym is_b.1) (sym (ap (λ xs. xs ++ x) is_a.0) ∙ same ∙ ap (λ xs. xs ++ y) is_b.0) in (ap I32 one.0, one.1)
one_payload p q a b x y type_is is_a is_b same = absurd (omega arith)

type_below : (payload : Payload) → wire_type payload < 8
type_below (Varint value) = omega arith
type_below (I64 eight) = omega arith
type_below (Len text) = omega arith
type_below (I32 four) = omega arith

-- a tag has one number and one wire type
one_tag : (m n v w : ℕ) → v < 8 → w < 8 → 8 * m + v ≡ 8 * n + w → (m ≡ n) × (v ≡ w)
one_tag m n v w below_v below_w same = (omega arith, omega arith)

same_field : (f g : WireField) → f.number ≡ g.number → f.payload ≡ g.payload → f ≡ g
same_field f g number payload =
    let made : ℕ → Payload → WireField = λ n p. record { number = n; payload = p } in
    ap (λ n. made n f.payload) number ∙ ap (made g.number) payload

-- at most one field stands at the front
pub one_field : (f g : WireField) (a b x y : List ℕ) → IsField a f → IsField b g → a ++ x ≡ b ++ y → (f ≡ g) × (x ≡ y)
one_field f g a b x y is_a is_b same =
    let regrouped : is_a.tag ++ (is_a.rest ++ x) ≡ is_b.tag ++ (is_b.rest ++ y) =
    sym (append_assoc is_a.tag is_a.rest x) ∙ sym (ap (λ xs. xs ++ x) is_a.parts) ∙ same ∙ ap (λ xs. xs ++ y) is_b.parts ∙ append_assoc is_b.tag is_b.rest y in
    let tags = one_varint is_a.tag is_b.tag (is_a.rest ++ x) (is_b.rest ++ y) _ _ is_a.tag_is is_b.tag_is regrouped in
    let tag = one_tag f.number g.number _ _ (type_below f.payload) (type_below g.payload) tags.0 in
    let payload = one_payload f.payload g.payload is_a.rest is_b.rest x y tag.1 is_a.payload_is is_b.payload_is tags.1 in (
      same_field f g tag.0 payload.0,
      payload.1,
    )

-- where there is a fault of a wire type's payload, there is no payload of it
no_payload : (bytes front rest : List ℕ) (payload : Payload) {type_number : ℕ} {fault : WireFault} → IsPayloadFault bytes type_number fault
    → wire_type payload ≡ type_number → bytes ≡ front ++ rest → IsPayload front payload → ⊥
no_payload bytes front rest payload (NoType n none) type_is parts is = none payload type_is
no_payload bytes front rest (Varint value) (NoVarint fault none) type_is parts is = no_varint bytes front rest value none parts is
no_payload bytes front rest (I64 eight) (CutI64 few) type_is parts is = omega (arith, front_within bytes front rest parts, ap length is.0, is.1)
no_payload bytes front rest (Len text) (NoLen fault none) type_is parts (len, split, is) =
    no_varint bytes len (text ++ rest) (length text) none (parts ∙ ap (λ xs. xs ++ rest) split ∙ append_assoc len text rest) is
no_payload bytes front rest (Len text) (CutLen count after (other, cut, count_is) few) type_is parts (len, split, is) =
    let whole : other ++ after ≡ len ++ (text ++ rest) = sym cut ∙ parts ∙ ap (λ xs. xs ++ rest) split ∙ append_assoc len text rest in
    let one = one_varint other len after (text ++ rest) count (length text) count_is is whole in
    omega (arith, few, one.0, ap length one.1, length-append text rest)
no_payload bytes front rest (I32 four) (CutI32 few) type_is parts is = omega (arith, front_within bytes front rest parts, ap length is.0, is.1)
no_payload bytes front rest payload fault type_is parts is = omega arith

-- a tag at the front is that of the field there
same_tag : (bytes after : List ℕ) (number type_number : ℕ) (front rest : List ℕ) (field : WireField) → BeginsWithTag bytes number type_number after
    → bytes ≡ front ++ rest → (is : IsField front field) → (number ≡ field.number) × (type_number ≡ wire_type field.payload)
    × (after ≡ is.rest ++ rest)
same_tag bytes after number type_number front rest field begins parts is =
    let whole : begins.tag.0 ++ after ≡ is.tag ++ (is.rest ++ rest) = sym begins.tag.1 ∙ parts ∙ ap (λ xs. xs ++ rest) is.parts ∙ append_assoc is.tag is.rest rest in
    let tags = one_varint begins.tag.0 is.tag after (is.rest ++ rest) _ _ begins.tag.2 is.tag_is whole in
    let one = one_tag number field.number type_number (wire_type field.payload) begins.low_bits (type_below field.payload) tags.0 in
    (one.0, one.1, tags.1)

-- two tags at the front are one
both_tags : (bytes rest rest' : List ℕ) (m v n w : ℕ) → BeginsWithTag bytes m v rest → BeginsWithTag bytes n w rest' → (m ≡ n) × (v ≡ w) × (rest ≡ rest')
both_tags bytes rest rest' m v n w a b =
    let tags = one_varint a.tag.0 b.tag.0 rest rest' _ _ a.tag.2 b.tag.2 (sym a.tag.1 ∙ b.tag.1) in
    let one = one_tag m n v w a.low_bits b.low_bits tags.0 in
    (one.0, one.1, tags.1)

-- where there is a fault, there is no field
pub no_field : (bytes front rest : List ℕ) (field : WireField) {fault : WireFault} → IsFieldFault bytes fault → bytes ≡ front ++ rest → IsField front field → ⊥
no_field bytes front rest field (NoTag fault none) parts is =
    no_varint bytes is.tag (is.rest ++ rest) _ none (parts ∙ ap (λ xs. xs ++ rest) is.parts ∙ append_assoc is.tag is.rest rest) is.tag_is
no_field bytes front rest field (NoNumber number type_number after begins none) parts is =
    let one = same_tag bytes after number type_number front rest field begins parts is in
    none (rw one.0 is.number_is)
no_field bytes front rest field (NoPayload fault number type_number after begins in_range none) parts is =
    let one = same_tag bytes after number type_number front rest field begins parts is in
    no_payload after is.rest rest field.payload none (sym one.1) one.2 is.payload_is

-- at most one fault has a wire type's payload
one_payload_fault : (bytes : List ℕ) {m n : ℕ} {f g : WireFault} → m ≡ n → IsPayloadFault bytes m f → IsPayloadFault bytes n g → f ≡ g
one_payload_fault bytes same (NoType m none) (NoType n other) = refl
one_payload_fault bytes same (NoType m none) (NoVarint g cut) = absurd (none (Varint 0) (sym same))
one_payload_fault bytes same (NoType m none) (CutI64 few) = absurd (none (I64 []) (sym same))
one_payload_fault bytes same (NoType m none) (NoLen g cut) = absurd (none (Len []) (sym same))
one_payload_fault bytes same (NoType m none) (CutLen count rest (len, parts, is) few) = absurd (none (Len []) (sym same))
one_payload_fault bytes same (NoType m none) (CutI32 few) = absurd (none (I32 []) (sym same))
one_payload_fault bytes same (NoVarint f cut) (NoType n none) = absurd (none (Varint 0) same)
one_payload_fault bytes same (CutI64 few) (NoType n none) = absurd (none (I64 []) same)
one_payload_fault bytes same (NoLen f cut) (NoType n none) = absurd (none (Len []) same)
one_payload_fault bytes same (CutLen count rest (len, parts, is) few) (NoType n none) = absurd (none (Len []) same)
one_payload_fault bytes same (CutI32 few) (NoType n none) = absurd (none (I32 []) same)
one_payload_fault bytes same (NoVarint f cut) (NoVarint g other) = one_varint_fault bytes cut other
one_payload_fault bytes same (CutI64 few) (CutI64 other) = refl
one_payload_fault bytes same (NoLen f cut) (NoLen g other) = one_varint_fault bytes cut other
one_payload_fault bytes same (NoLen f cut) (CutLen count rest (len, parts, is) few) = absurd (no_varint bytes len rest count cut parts is)
one_payload_fault bytes same (CutLen count rest (len, parts, is) few) (NoLen g cut) = absurd (no_varint bytes len rest count cut parts is)
one_payload_fault bytes same (CutLen count rest (len, parts, is) few) (CutLen count' rest' (len', parts', is') few') = refl
one_payload_fault bytes same (CutI32 few) (CutI32 other) = refl
one_payload_fault bytes same a b = absurd (omega arith)

-- at most one fault has a field
pub one_field_fault : (bytes : List ℕ) {f g : WireFault} → IsFieldFault bytes f → IsFieldFault bytes g → f ≡ g
one_field_fault bytes (NoTag f none) (NoTag g other) = one_varint_fault bytes none other
one_field_fault bytes (NoTag f none) (NoNumber m v rest begins out) = absurd (no_varint bytes begins.tag.0 rest _ none begins.tag.1 begins.tag.2)
one_field_fault bytes (NoTag f none) (NoPayload g m v rest begins within wrong) = absurd (no_varint bytes begins.tag.0 rest _ none begins.tag.1 begins.tag.2)
one_field_fault bytes (NoNumber m v rest begins out) (NoTag g none) = absurd (no_varint bytes begins.tag.0 rest _ none begins.tag.1 begins.tag.2)
one_field_fault bytes (NoPayload f m v rest begins within wrong) (NoTag g none) = absurd (no_varint bytes begins.tag.0 rest _ none begins.tag.1 begins.tag.2)
one_field_fault bytes (NoNumber m v rest begins out) (NoNumber n w rest' other out') = refl
one_field_fault bytes (NoNumber m v rest begins out) (NoPayload g n w rest' other within wrong) =
    let one = both_tags bytes rest rest' m v n w begins other in absurd (out (rw one.0 within))
one_field_fault bytes (NoPayload f m v rest begins within wrong) (NoNumber n w rest' other out) =
    let one = both_tags bytes rest rest' m v n w begins other in absurd (out (rw (← one.0) within))
one_field_fault bytes (NoPayload f m v rest begins within wrong) (NoPayload g n w rest' other within' wrong') =
    let one = both_tags bytes rest rest' m v n w begins other in
    one_payload_fault rest' one.1 (let P : List ℕ → Type 0 = λ xs. IsPayloadFault xs v f in subst P one.2 wrong) wrong'
