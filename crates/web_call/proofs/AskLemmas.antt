use Rattle.std.proofs.Common.{◌≡◌, ℕ, List, Ok, Err, refl, ap, subst}
use Rattle.std.specs.Str.{IsUtf8}
use Rattle.grpc_frame.specs.declared.fault.FrameFault.{FrameFault}
use Rattle.grpc_frame.specs.Message.{IsOneMessage, HasOneAnswer}
use Rattle.health_wire.specs.declared.fault.WireFault.{WireFault}
use Rattle.health_wire.specs.Request.{IsRequest, IsRequestFault}
use Rattle.web_call.specs.declared.method.Method.{Method}
use Rattle.web_call.specs.Ask.{Asked, IsAsked, refusal, asked_for}
use Rattle.web_call.specs.Ask.IsAsked.{BadFrame, BadMessage, Asks}

-- what the layers below say: a body has one answer at most, and bytes are one request at most
pub record ReadsOnce : Type 0 where
  pub answer : (body : List ℕ) → HasOneAnswer body
  pub name : (bytes a b : List ℕ) → IsRequest bytes a → IsRequest bytes b → a ≡ b
  pub either : (bytes name : List ℕ) (fault : WireFault) → IsRequest bytes name → IsUtf8 name → IsRequestFault bytes fault → ⊥

-- a message is one, and is no fault
same_message : ReadsOnce → (body a b : List ℕ) → IsOneMessage body (Ok a) → IsOneMessage body (Ok b) → a ≡ b
same_message once body a b is_a is_b = let same = once.answer body (Ok a) (Ok b) is_a is_b in cc

not_both : ReadsOnce → (body message : List ℕ) (fault : FrameFault) → IsOneMessage body (Ok message) → IsOneMessage body (Err fault) → ⊥
not_both once body message fault is wrong = let same = once.answer body (Ok message) (Err fault) is wrong in cc

pub one_asked : ReadsOnce → (method : Method) (body : List ℕ) (a b : Asked) → IsAsked method body a → IsAsked method body b → a ≡ b
one_asked once method body a b (BadFrame f is_f) (BadFrame g is_g) =
    let same = once.answer body (Err f) (Err g) is_f is_g in
    let faults : f ≡ g = cc in
    ap refusal faults
one_asked once method body a b (BadFrame f is_f) (BadMessage m g is wrong) = absurd (not_both once body m f is is_f)
one_asked once method body a b (BadFrame f is_f) (Asks m name is asked text) = absurd (not_both once body m f is is_f)
one_asked once method body a b (BadMessage m g is wrong) (BadFrame f is_f) = absurd (not_both once body m f is is_f)
one_asked once method body a b (BadMessage m f is wrong) (BadMessage n g is_n other) = refl
one_asked once method body a b (BadMessage m f is wrong) (Asks n name is_n asked text) =
    absurd (once.either n name f asked text (let P : List ℕ → Type 0 = λ xs. IsRequestFault xs f in subst P (same_message once body m n is is_n) wrong))
one_asked once method body a b (Asks m name is asked text) (BadFrame f is_f) = absurd (not_both once body m f is is_f)
one_asked once method body a b (Asks n name is_n asked text) (BadMessage m f is wrong) =
    absurd (once.either n name f asked text (let P : List ℕ → Type 0 = λ xs. IsRequestFault xs f in subst P (same_message once body m n is is_n) wrong))
one_asked once method body a b (Asks m name is asked text) (Asks n other is_n asked_n text_n) =
    let P : List ℕ → Type 0 = λ xs. IsRequest xs name in
    ap (asked_for method) (once.name n name other (subst P (same_message once body m n is is_n) asked) asked_n)
