use Rattle.std.proofs.Common.{◌≡◌, ℕ, zero, suc, List, [], ◌∷◌, ◌++◌, refl, sym, ap, subst, ◌∙◌, arith}
use Rattle.std.specs.Str.{IsUtf8}
use Rattle.health_wire.specs.declared.fault.WireFault.{WireFault}
use Rattle.health_wire.specs.Varint.{AreBytes}
use Rattle.health_wire.specs.Request.{IsRequest, IsRequestBytes, IsRequestFault, name_of}
use Rattle.health_wire.specs.Request.IsRequestFault.{Wire, Name}
use Rattle.health_wire.proofs.MessageLemmas.{one_message, one_message_fault, no_message}
use Rattle.health_wire.proofs.SpellingLemmas.{one_spelling}

-- bytes have one name at most
pub one_name : (bytes a b : List ℕ) → IsRequest bytes a → IsRequest bytes b → a ≡ b
one_name bytes a b is_a is_b = is_a.name_is ∙ ap name_of (one_message bytes is_a.fields is_b.fields is_a.message is_b.message) ∙ sym is_b.name_is

-- bytes with a name that is text have no fault
pub no_fault : (bytes name : List ℕ) (fault : WireFault) → IsRequest bytes name → IsUtf8 name → IsRequestFault bytes fault → ⊥
no_fault bytes name fault is text (Wire f wrong) = no_message bytes f is.fields wrong is.message
no_fault bytes name fault is text (Name other asked no_text) = no_text (let P : List ℕ → Type 0 = λ n. IsUtf8 n in subst P (one_name bytes name other is asked) text)

pub one_fault : (bytes : List ℕ) (f g : WireFault) → IsRequestFault bytes f → IsRequestFault bytes g → f ≡ g
one_fault bytes f g (Wire f' wrong) (Wire g' other) = one_message_fault bytes f g wrong other
one_fault bytes f g (Wire f' wrong) (Name name is no_text) = absurd (no_message bytes f is.fields wrong is.message)
one_fault bytes f g (Name name is no_text) (Wire g' wrong) = absurd (no_message bytes g is.fields wrong is.message)
one_fault bytes f g (Name name is no_text) (Name other is' no_text') = refl

-- the bytes of a front are bytes
bytes_of_front : (a b : List ℕ) → AreBytes (a ++ b) → AreBytes a
bytes_of_front [] b are k = omega arith
bytes_of_front (x ∷ a) b are zero = are zero
bytes_of_front (x ∷ a) b are (suc k) = bytes_of_front a b (λ j. are (suc j)) k

-- a name has one spelling
pub one_request_spelling : (a b name : List ℕ) → AreBytes a → AreBytes b → IsRequestBytes a name → IsRequestBytes b name → a ≡ b
one_request_spelling a b [] bytes_a bytes_b is_a is_b = is_a ∙ sym is_b
one_request_spelling a b (byte ∷ name) bytes_a bytes_b (len_a, parts_a, is_a) (len_b, parts_b, is_b) =
    let P : List ℕ → Type 0 = λ xs. AreBytes xs in
    let len_bytes = λ (bytes len : List ℕ) (parts : bytes ≡ 10 ∷ len ++ byte ∷ name) (are : AreBytes bytes). bytes_of_front len (byte ∷ name) (λ k. subst P parts are (suc k)) in
    parts_a ∙ ap (λ len. 10 ∷ len ++ byte ∷ name) (one_spelling len_a len_b _ (len_bytes a len_a parts_a bytes_a) (len_bytes b len_b parts_b bytes_b) is_a is_b) ∙ sym parts_b
