use Rattle.std.proofs.Common.{◌≡◌, ℕ, ◌<◌, Option, None, Some, unwrap_or, List, [], ◌∷◌, ◌++◌, length, refl, sym, ap, subst, ◌∙◌, arith, append_assoc}
use Rattle.std.specs.List.{filter_map, last_or, cons_option}
use Rattle.std.proofs.lemmas.List.Elements.{filter_map-append}
use Rattle.std.proofs.lemmas.List.{append-nil, nil_from_length}
use Rattle.health_wire.specs.declared.fault.WireFault.{WireFault}
use Rattle.health_wire.specs.Parts.{Begins}
use Rattle.health_wire.specs.Field.{WireField, IsField, IsFieldFault}
use Rattle.health_wire.specs.Message.{IsMessage, IsFault, last_given}
use Rattle.health_wire.proofs.FrontLemmas.{then_front, front_within}
use Rattle.health_wire.proofs.FieldLemmas.{one_field, no_field, one_field_fault}

-- one more field at the end
pub message_more : (bytes next : List ℕ) (fields : List WireField) (field : WireField) → IsMessage bytes fields → IsField next field → IsMessage (bytes ++ next) (fields ++ field ∷ [])
message_more bytes next [] field empty is = (next, [], ap (λ xs. xs ++ next) empty ∙ sym (append-nil next), is, refl)
message_more bytes next (first ∷ fields) field (front, rest, parts, first_is, more) is =
    (front, rest ++ next, ap (λ xs. xs ++ next) parts ∙ append_assoc front rest next, first_is, message_more rest next fields field more is)

-- what was read of the bytes up to the rest has this meaning
pub record HasRead {V : Type 0} (meaning : List WireField → V) (bytes rest : List ℕ) (value : V) : Type 0 where
  pub fields : List WireField
  pub reads : Begins (λ front. IsMessage front fields) bytes rest
  pub value_is : value ≡ meaning fields

pub start : {V : Type 0} (meaning : List WireField → V) (bytes : List ℕ) → HasRead meaning bytes bytes (meaning [])
start meaning bytes = record { fields = []; reads = ([], refl, refl); value_is = refl }

pub next : {V : Type 0} (meaning : List WireField → V) (bytes rest after : List ℕ) (field : WireField) (value new : V)
    → HasRead meaning bytes rest value → Begins (λ front. IsField front field) rest after
    → ((fields : List WireField) → value ≡ meaning fields → new ≡ meaning (fields ++ field ∷ [])) → HasRead meaning bytes after new
next meaning bytes rest after field value new read (front, parts, is) step = record {
  fields = read.fields ++ field ∷ [];
  reads = (
    read.reads.0 ++ front,
    then_front bytes read.reads.0 rest front after read.reads.1 parts,
    message_more read.reads.0 front read.fields field read.reads.2 is,
  );
  value_is = step read.fields read.value_is;
}

-- at the end all bytes were read
pub done : {V : Type 0} (meaning : List WireField → V) (bytes rest : List ℕ) (value : V) → length rest ≡ 0 → HasRead meaning bytes rest value
    → (fields : List WireField) × IsMessage bytes fields × (value ≡ meaning fields)
done meaning bytes rest value empty read =
    let whole : read.reads.0 ≡ bytes = sym (append-nil read.reads.0) ∙ ap (λ xs. read.reads.0 ++ xs) (sym (nil_from_length rest empty)) ∙ sym read.reads.1 in
    (read.fields, let P : List ℕ → Type 0 = λ xs. IsMessage xs read.fields in subst P whole read.reads.2, read.value_is)

-- a rest that begins with no field is the message's fault
pub stuck : {V : Type 0} (meaning : List WireField → V) (bytes rest : List ℕ) (value : V) (fault : WireFault) → HasRead meaning bytes rest value
    → 0 < length rest → IsFieldFault rest fault → IsFault bytes fault
stuck meaning bytes rest value fault read more fault_is = record { fields = read.fields; rest = rest; reads = read.reads; more = more; fault_is = fault_is }

last_or-append : {V : Type 0} (o : Option V) (xs ys : List V) → last_or o (xs ++ ys) ≡ last_or (last_or o xs) ys
last_or-append o [] ys = refl
last_or-append o (x ∷ xs) ys = last_or-append (Some x) xs ys

-- what one more field gives, or else what was given until then
pub last_given-more : {V : Type 0} (given : WireField → Option V) (default : V) (field : WireField) (found : Option V) → given field ≡ found
    → (value : V) (fields : List WireField) → value ≡ unwrap_or (last_given given fields) default
    → unwrap_or found value ≡ unwrap_or (last_given given (fields ++ field ∷ [])) default
last_given-more {V} given default field found is value fields value_is =
    let ends : last_given given (fields ++ field ∷ []) ≡ last_or (last_given given fields) (cons_option found []) =
    ap (last_or None) (filter_map-append given fields (field ∷ []))
    ∙ last_or-append None (filter_map given fields) (filter_map given (field ∷ []))
    ∙ ap (λ (o : Option V). last_or (last_given given fields) (cons_option o [])) is in
    latest found ∙ ap (λ (o : Option V). unwrap_or o default) (sym ends)
  where
    latest : (o : Option V) → unwrap_or o value ≡ unwrap_or (last_or (last_given given fields) (cons_option o [])) default
    latest None = value_is
    latest (Some new) = refl

-- the same, where the new value is told by the field
pub given_after : {V : Type 0} (given : WireField → Option V) (default : V) (field : WireField) (value new : V) → new ≡ unwrap_or (given field) value
    → (fields : List WireField) → value ≡ unwrap_or (last_given given fields) default
    → new ≡ unwrap_or (last_given given (fields ++ field ∷ [])) default
given_after {V} given default field value new new_is fields value_is = new_is ∙ last_given-more given default field (given field) refl value fields value_is

field_some : (bytes : List ℕ) (field : WireField) → IsField bytes field → 0 < length bytes
field_some bytes field is = omega (arith, is.tag_is.form.some, front_within bytes is.tag is.rest is.parts)

-- the empty message has no field
no_first : (bytes front rest : List ℕ) (field : WireField) → bytes ≡ [] → bytes ≡ front ++ rest → IsField front field → ⊥
no_first bytes front rest field empty parts is = omega (arith, field_some front field is, front_within bytes front rest parts, ap length empty)

-- bytes have at most one list of fields
pub one_message : (bytes : List ℕ) (fields others : List WireField) → IsMessage bytes fields → IsMessage bytes others → fields ≡ others
one_message bytes [] [] is_a is_b = refl
one_message bytes [] (g ∷ others) is_a (front, rest, parts, is, more) = absurd (no_first bytes front rest g is_a parts is)
one_message bytes (f ∷ fields) [] (front, rest, parts, is, more) is_b = absurd (no_first bytes front rest f is_b parts is)
one_message bytes (f ∷ fields) (g ∷ others) (front, rest, parts, is, more) (front', rest', parts', is', more') =
    let one = one_field f g front front' rest rest' is is' (sym parts ∙ parts') in
    let tails = one_message rest fields others more (let P : List ℕ → Type 0 = λ xs. IsMessage xs others in subst P (sym one.1) more') in
    ap (λ first. first ∷ fields) one.0 ∙ ap (λ xs. g ∷ xs) tails

-- a message goes on where a front of it that is a message ends
rest_of_message : (bytes front rest : List ℕ) (read all : List WireField) → bytes ≡ front ++ rest → IsMessage front read → IsMessage bytes all → (more : List WireField) × IsMessage rest more
rest_of_message bytes front rest [] all parts empty is =
    (all, let P : List ℕ → Type 0 = λ xs. IsMessage xs all in subst P (parts ∙ ap (λ xs. xs ++ rest) empty) is)
rest_of_message bytes front rest (f ∷ read) [] parts (next, after, split, is, more) empty =
    absurd (no_first bytes next (after ++ rest) f empty (parts ∙ ap (λ xs. xs ++ rest) split ∙ append_assoc next after rest) is)
rest_of_message bytes front rest (f ∷ read) (g ∷ all) parts (next, after, split, is, more) (next', after', split', is', more') =
    let one = one_field f g next next' (after ++ rest) after' is is' (sym (append_assoc next after rest) ∙ sym (ap (λ xs. xs ++ rest) split) ∙ sym parts ∙ split') in
    rest_of_message after' after rest read all (sym one.1) more more'

-- bytes with a fault are no message
pub no_message : (bytes : List ℕ) (fault : WireFault) (fields : List WireField) → IsFault bytes fault → IsMessage bytes fields → ⊥
no_message bytes fault fields wrong is =
    let left = rest_of_message bytes wrong.reads.0 wrong.rest wrong.fields fields wrong.reads.1 wrong.reads.2 is in
    no_next wrong.rest left.0 wrong.more wrong.fault_is left.1
  where
    no_next : (rest : List ℕ) (more : List WireField) → 0 < length rest → IsFieldFault rest fault → IsMessage rest more → ⊥
    no_next rest [] some none empty = omega (arith, ap length empty)
    no_next rest (f ∷ more) some none (front, after, parts, is, others) = no_field rest front after f none parts is

-- what follows the longest front that is a message is one
one_rest : (bytes a b x y : List ℕ) (fields others : List WireField) {f g : WireFault} → IsMessage a fields → IsMessage b others → bytes ≡ a ++ x
    → bytes ≡ b ++ y → IsFieldFault x f → IsFieldFault y g → x ≡ y
one_rest bytes a b x y [] [] empty_a empty_b parts_a parts_b wrong_x wrong_y =
    sym (parts_a ∙ ap (λ xs. xs ++ x) empty_a) ∙ parts_b ∙ ap (λ xs. xs ++ y) empty_b
one_rest bytes a b x y [] (g ∷ others) empty_a (front, rest, split, is, more) parts_a parts_b wrong_x wrong_y =
    absurd (no_field x front (rest ++ y) g wrong_x (sym (parts_a ∙ ap (λ xs. xs ++ x) empty_a) ∙ parts_b ∙ ap (λ xs. xs ++ y) split ∙ append_assoc front rest y) is)
one_rest bytes a b x y (f ∷ fields) [] (front, rest, split, is, more) empty_b parts_a parts_b wrong_x wrong_y =
    absurd (no_field y front (rest ++ x) f wrong_y (sym (parts_b ∙ ap (λ xs. xs ++ y) empty_b) ∙ parts_a ∙ ap (λ xs. xs ++ x) split ∙ append_assoc front rest x) is)
one_rest bytes a b x y (f ∷ fields) (g ∷ others) (front, rest, split, is, more) (front', rest', split', is', more') parts_a parts_b wrong_x wrong_y =
    let first_a : bytes ≡ front ++ (rest ++ x) = parts_a ∙ ap (λ xs. xs ++ x) split ∙ append_assoc front rest x in
    let first_b : bytes ≡ front' ++ (rest' ++ y) = parts_b ∙ ap (λ xs. xs ++ y) split' ∙ append_assoc front' rest' y in
    let one = one_field f g front front' (rest ++ x) (rest' ++ y) is is' (sym first_a ∙ first_b) in
    one_rest (rest ++ x) rest rest' x y fields others more more' refl one.1 wrong_x wrong_y

-- bytes have at most one first fault
pub one_message_fault : (bytes : List ℕ) (f g : WireFault) → IsFault bytes f → IsFault bytes g → f ≡ g
one_message_fault bytes f g a b =
    let same = one_rest bytes a.reads.0 b.reads.0 a.rest b.rest a.fields b.fields a.reads.2 b.reads.2 a.reads.1 b.reads.1 a.fault_is b.fault_is in
    one_field_fault b.rest (let P : List ℕ → Type 0 = λ xs. IsFieldFault xs f in subst P same a.fault_is) b.fault_is
