-- What the head of a request asks for.
use Rattle.std.proofs.Common.{◌≡◌, ◌≤◌, ◌∙◌, ℕ, List, Option, None, Some, IfSome, option_map, ap, sym, subst, length, take, arith}
use Rattle.std.proofs.lemmas.List.{drop_all, length-map, length-take-le}
use Rattle.httparse.specs.declared.spans.HeaderSpan.{HeaderSpan}
use Rattle.httparse.specs.declared.spans.RequestSpans.{RequestSpans}
use Rattle.httparse.specs.Grammar.{ReadsRequest}
use Rattle.httparse.specs.Spans.{IsRequestAt, header_bytes, name_and_value}
use Rattle.httparse.specs.Grammar.{RequestHead}
use Rattle.plain.specs.declared.inquiry.Inquiry.{Inquiry}
use Rattle.plain.specs.Answer.{IsInquiryOf, answer_to}
use Rattle.plain.specs.Inquiry.{asked_by, asked_of}
use Rattle.plain.specs.PlainText.{IsHeadOf}

-- a head that was read to the end of the bytes, into 32 lines
pub is_head_of : (bytes : List ℕ) (lines : List HeaderSpan) (spans : RequestSpans) (request : RequestHead) → IsRequestAt bytes lines spans request
    → length bytes ≤ spans.len → spans.headers ≤ length lines → length lines ≡ 32 → IsHeadOf request bytes
is_head_of bytes lines spans request at all fits room = (
  subst (λ rest. ReadsRequest bytes request rest) (drop_all spans.len bytes all) at.reads,
  omega (
    arith,
    fits,
    room,
    length-take-le spans.headers lines fits,
    length-map (take spans.headers lines) (header_bytes bytes),
    ap length at.fields,
    length-map request.fields name_and_value,
  ),
)

-- what is asked by the method and the target of a request is what its head asks
pub asks_so : (bytes method target : List ℕ) (request : RequestHead) (inquiry : Option Inquiry) → IsHeadOf request bytes → method ≡ request.method
    → target ≡ request.target → option_map asked_of inquiry ≡ asked_by method target → IfSome inquiry (λ i. IsInquiryOf bytes (asked_of i))
asks_so bytes method target request None head method_is target_is asked = tt
asks_so bytes method target request (Some inquiry) head method_is target_is asked = record {
  request = request;
  is_head = head;
  is_plain = ap (option_map answer_to) (sym (asked ∙ ap (λ m. asked_by m target) method_is ∙ ap (λ t. asked_by request.method t) target_is));
}
