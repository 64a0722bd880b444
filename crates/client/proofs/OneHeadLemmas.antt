-- Bytes have one head at most, which says one thing of its body.
use Rattle.std.proofs.Common.{ℕ, ◌≡◌, ◌+◌, ◌<◌, Bool, true, false, List, [], ◌++◌, length, take, drop, map, sym, ap, ◌∙◌, inl, inr, arith, length-append}
use Rattle.std.proofs.lemmas.List.{take-append-le}
use Rattle.std.proofs.Math.Nat.{eq-or-lt_of_le}
use Rattle.std.proofs.Math.Seq.{take-append_seam, drop-append_seam}
use Rattle.std.specs.Prelude.{MatchBool, Result, Err}
use Rattle.httparse.specs.Grammar.{ResponseHead, status_code}
use Rattle.httparse.specs.Spans.{name_and_value}
use Rattle.httparse.proofs.GrammarLemmas.{response_unique}
use Rattle.web_call.specs.Head.{is_too_large}
use Rattle.web_call.specs.InputHead.{IsHead, IsOpenHead, ends_blank, max_head_len}
use Rattle.web_call.specs.declared.method.Method.{Method}
use Rattle.client.specs.declared.ask_fault.AskFault.{AskFault}
use Rattle.client.specs.declared.ask_fault.AskFault.TheVariants.{BadResponse}
use Rattle.client.specs.declared.http_framing.Framing.{Framing}
use Rattle.client.specs.HttpFraming.{IsFramed, IsHeadSaying, framing_by}
use Rattle.client.proofs.BodyLemmas.{at_most}

-- a head of full length at most, at which no blank line ends, has full length
full : (head : List ℕ) → IsHead head → ends_blank head ≡ false → length head ≡ max_head_len
full head is unended = elim is.ends [ inl blank ↦ (let never : false ≡ true = sym unended ∙ blank in cc) | inr long ↦ long ]

-- open bytes have no head in them
pub open_no_head : (bytes head body : List ℕ) → IsOpenHead bytes → bytes ≡ head ++ body → ¬ IsHead head
open_no_head bytes head body is_open parts is =
    let lens : length bytes ≡ length head + length body = ap length parts ∙ length-append head body in
    let unended = ap ends_blank (sym (take-append_seam head body) ∙ ap (take (length head)) (sym parts)) ∙ is_open.ends_nowhere (length head) (omega (arith, lens)) in
    let long = full head is unended in omega (arith, long, lens, is_open.within)

-- no head is the front of a longer one
no_longer : (head body other more : List ℕ) → head ++ body ≡ other ++ more → IsHead head → IsHead other → ¬ (length head < length other)
no_longer head body other more same is also below =
    let front : head ≡ take (length head) other =
    sym (take-append_seam head body) ∙ ap (take (length head)) same ∙ take-append-le (length head) other more (omega (arith, below)) in
    let long = full head is (ap ends_blank front ∙ also.first (length head) below) in omega (arith, long, also.within, below)

-- two heads of the same bytes have the same length
same_length : (head body other more : List ℕ) → head ++ body ≡ other ++ more → IsHead head → IsHead other → length head ≡ length other
same_length head body other more same is also =
    elim (at_most (length other) (length head)) [
      | inl within ↦ elim (eq-or-lt_of_le within) [ inl equal ↦ sym equal | inr below ↦ absurd (no_longer other more head body (sym same) also is below) ]
      | inr over ↦ absurd (no_longer head body other more same is also over)
    ]

-- bytes have one head at most
pub one_head : (head body other more : List ℕ) → head ++ body ≡ other ++ more → IsHead head → IsHead other → (head ≡ other) × (body ≡ more)
one_head head body other more same is also =
    let len = same_length head body other more same is also in (
      sym (take-append_seam head body) ∙ ap (take (length head)) same ∙ ap (λ (n : ℕ). take n (other ++ more)) len ∙ take-append_seam other more,
      sym (drop-append_seam head body) ∙ ap (drop (length head)) same ∙ ap (λ (n : ℕ). drop n (other ++ more)) len ∙ drop-append_seam other more,
    )

-- what a head says is one thing
one_said : (method : Method) (bytes : List ℕ) (a b : Result Framing AskFault) → IsHeadSaying method bytes a → IsHeadSaying method bytes b → a ≡ b
one_said method bytes a b (inl (head, is, says)) (inl (other, also, said)) =
    says ∙ ap (λ (h : ResponseHead). framing_by method (status_code h) (map name_and_value h.fields)) (response_unique bytes head other [] [] is.0 also.0).0 ∙ sym said
one_said method bytes a b (inl (head, is, says)) (inr (none, said)) = absurd (none head is)
one_said method bytes a b (inr (none, says)) (inl (other, also, said)) = absurd (none other also)
one_said method bytes a b (inr (none, says)) (inr (never, said)) = says ∙ sym said

one_framing : (method : Method) (large : Bool) (bytes : List ℕ) (a b : Result Framing AskFault) → MatchBool large (a ≡ Err BadResponse) (IsHeadSaying method bytes a)
    → MatchBool large (b ≡ Err BadResponse) (IsHeadSaying method bytes b) → a ≡ b
one_framing method true bytes a b says said = says ∙ sym said
one_framing method false bytes a b says said = one_said method bytes a b says said

-- too large or not, it is one thing
pub one_framed : (method : Method) (bytes : List ℕ) (a b : Result Framing AskFault) → IsFramed method bytes a → IsFramed method bytes b → a ≡ b
one_framed method bytes a b says said = one_framing method (is_too_large bytes) bytes a b says said
