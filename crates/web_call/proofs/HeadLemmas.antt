-- What a head is answered: one answer at most, which asks a plain request for no body.
use Rattle.std.proofs.Common.{ℕ, ◌≡◌, inl, inr, Bool, true, false, not, if◌then◌else◌, List, [], map}
use Rattle.std.proofs.Common.{Option, None, Some, is_some, option_map, refl, sym, ap, subst, ◌∙◌, true≢false}
use Rattle.std.proofs.lemmas.Slice.Eq.{bytes_eq-Decides}
use Rattle.std.specs.Prelude.{MatchBool, ◌==◌, nat_lt, codes}
use Rattle.std.specs.Str.{bytes_eq}
use Rattle.grpc_frame.specs.declared.code.Code.TheVariants.{ResourceExhausted}
use Rattle.httparse.proofs.GrammarLemmas.{request_unique}
use Rattle.httparse.specs.Spans.{name_and_value}
use Rattle.plain.specs.Answer.{IsInquiryOf, answer_to as answer_plainly_to}
use Rattle.plain.specs.Inquiry.{Asked as AskedPlainly, asked_by}
use Rattle.web_call.specs.declared.method.Method.{Method}
use Rattle.web_call.specs.declared.method.Method.TheVariants.{Check, Watch}
use Rattle.web_call.specs.ContentLength.{content_length}
use Rattle.web_call.specs.ContentType.{has_grpc_web}
use Rattle.web_call.specs.Head.{IsAnsweredHead, IsHeaded, head_answer, is_too_large, length_answer}
use Rattle.web_call.specs.Head.{method_answer}
use Rattle.web_call.specs.HeadAnswer.{HeadAnswer, Refused, Ended, max_body_len}
use Rattle.web_call.specs.Intake.{body_len}
use Rattle.web_call.specs.Lines.{first_named}
use Rattle.web_call.specs.Method.{method_of}

-- bytes are one head at most
one_answered : (bytes : List ℕ) (a b : HeadAnswer) → IsAnsweredHead bytes a → IsAnsweredHead bytes b → a ≡ b
one_answered bytes a b (inl (head, is, told)) (inl (other, also, said)) =
    told ∙ ap head_answer (request_unique bytes head other [] [] is.0 also.0).0 ∙ sym said
one_answered bytes a b (inl (head, is, told)) (inr (none, said)) = absurd (none head is)
one_answered bytes a b (inr (none, told)) (inl (head, is, said)) = absurd (none head is)
one_answered bytes a b (inr (none, told)) (inr (never, said)) = told ∙ sym said

-- too large or not, there is one answer
pub one_answer : (large : Bool) (bytes : List ℕ) (a b : HeadAnswer)
    → MatchBool large (a ≡ Refused 431) (IsAnsweredHead bytes a) → MatchBool large (b ≡ Refused 431) (IsAnsweredHead bytes b)
    → a ≡ b
one_answer true bytes a b told said = told ∙ sym said
one_answer false bytes a b told said = one_answered bytes a b told said

abbrev check_path : List ℕ
check_path = codes "/grpc.health.v1.Health/Check"

abbrev watch_path : List ℕ
watch_path = codes "/grpc.health.v1.Health/Watch"

-- a POST to a method of the health service is no plain request
call_path : (target : List ℕ) (method : Method) → method_of target ≡ Some method
    → asked_by (codes "POST") target ≡ None
call_path target method is = by_path (bytes_eq target check_path) (bytes_eq target watch_path) refl refl is
  where
    by_path : (a b : Bool) → bytes_eq target check_path ≡ a → bytes_eq target watch_path ≡ b
        → (if a then Some Check else (if b then Some Watch else None)) ≡ Some method
        → asked_by (codes "POST") target ≡ None
    by_path true b check watch some =
        ap (λ path. asked_by (codes "POST") path) ((bytes_eq-Decides target check_path).0 check)
    by_path false true check watch some =
        ap (λ path. asked_by (codes "POST") path) ((bytes_eq-Decides target watch_path).0 watch)
    by_path false false check watch some = absurd (true≢false (sym (ap is_some some)))

-- neither of two answers asks for a body
no_len : (test : Bool) (x y : HeadAnswer) → body_len x ≡ 0 → (test ≡ false → body_len y ≡ 0)
    → body_len (if test then x else y) ≡ 0
no_len true x y one other = one
no_len false x y one other = other refl

plain_len : (count : Option ℕ) (lines : List (List ℕ × List ℕ)) (method target : List ℕ) (minor : ℕ)
    → (asked_by method target ≡ None → ⊥) → body_len (length_answer count lines method target minor) ≡ 0
plain_len None lines method target minor asked = refl
plain_len (Some len) lines method target minor asked =
    no_len (minor == 0) (Refused 505) _ refl
    (λ _. no_len (not (bytes_eq method (codes "POST"))) (Refused 405) _ refl
    (λ post. no_len (not (has_grpc_web lines)) (Refused 415) _ refl
    (λ _. no_len (is_some (first_named (codes "transfer-encoding") lines)) (Refused 411) _ refl
    (λ _. no_len (nat_lt max_body_len len)
    (Ended ResourceExhausted (codes "request too large")) _ refl
    (λ _. by_method (method_of target) refl (is_post (bytes_eq method (codes "POST")) refl post))))))
  where
    is_post : (b : Bool) → bytes_eq method (codes "POST") ≡ b → not b ≡ false → method ≡ codes "POST"
    is_post true is post = (bytes_eq-Decides method (codes "POST")).0 is
    is_post false is post = absurd (true≢false post)

    by_method : (asks : Option Method) → method_of target ≡ asks → method ≡ codes "POST"
        → body_len (method_answer asks len) ≡ 0
    by_method None is post = refl
    by_method (Some call) is post =
        absurd (asked (ap (λ name. asked_by name target) post ∙ call_path target call is))

-- a plain request asks for no body
pub plain_asks_no_body : (bytes : List ℕ) (what : AskedPlainly) (answer : HeadAnswer)
    → is_too_large bytes ≡ false → IsInquiryOf bytes what → IsHeaded bytes answer → body_len answer ≡ 0
plain_asks_no_body bytes what answer within asks headed =
    by_head
    (subst (λ large. MatchBool large (answer ≡ Refused 431) (IsAnsweredHead bytes answer)) within headed)
  where
    some : asked_by asks.request.method asks.request.target ≡ None → ⊥
    some none =
        let no_answer = ap (option_map answer_plainly_to) none in
        true≢false (sym (ap is_some (sym no_answer ∙ asks.is_plain)))

    by_head : IsAnsweredHead bytes answer → body_len answer ≡ 0
    by_head (inl (head, is, told)) =
        let same = (request_unique bytes head asks.request [] [] is.0 asks.is_head.0).0 in
        let lines = map name_and_value asks.request.fields in
        ap body_len (told ∙ ap head_answer same)
        ∙ plain_len (content_length lines) lines asks.request.method asks.request.target
        asks.request.minor some
    by_head (inr (none, told)) = ap body_len told
