-- The head of a response that was read whole.
use Rattle.std.proofs.Common.{ℕ, ◌≡◌, ◌≢◌, ◌≤◌, Bool, true, false, List, [], length, map, take, drop, refl, sym, ap, ◌∙◌, subst, arith, inl, inr}
use Rattle.std.proofs.Math.Seq.{drop-length}
use Rattle.std.proofs.lemmas.Bool.{ne_eqb}
use Rattle.std.proofs.lemmas.List.{length-map, length-take}
use Rattle.std.specs.Prelude.{Option, Result, Some, None, Ok, Err, MatchBool, ◌==◌, if◌then◌else◌, nat_le}
use Rattle.std.specs.List.{list_any}
use Rattle.httparse.specs.declared.spans.HeaderSpan.{HeaderSpan}
use Rattle.httparse.specs.declared.spans.ResponseSpans.{ResponseSpans}
use Rattle.httparse.specs.Grammar.{ReadsResponse, status_code}
use Rattle.httparse.specs.Spans.{IsResponseOf, header_bytes, name_and_value}
use Rattle.web_call.specs.Head.{is_too_large}
use Rattle.web_call.specs.declared.method.Method.{Method}
use Rattle.client.specs.declared.ask_fault.AskFault.{AskFault}
use Rattle.client.specs.declared.ask_fault.AskFault.TheVariants.{BadResponse, Http}
use Rattle.client.specs.declared.http_framing.Framing.{Framing}
use Rattle.client.specs.declared.http_framing.Framing.TheVariants.{Chunked, Length}
use Rattle.client.specs.HttpFraming.{IsFramed, IsHeadSaying, by_length, framing_by, framing_in, is_chunked, max_body_len, max_chunked, only_length}

-- a head of at most 32 lines that are all of the bytes says how its body is framed
framed_by_code : (method : Method) (bytes : List ℕ) (headers : List HeaderSpan) (spans : ResponseSpans) (framing : Result Framing AskFault) → false ≡ is_too_large bytes
    → IsResponseOf bytes headers spans → length headers ≡ 32 → spans.len ≡ length bytes
    → framing ≡ framing_by method spans.code (map (header_bytes bytes) (take spans.headers headers)) → IsFramed method bytes framing
framed_by_code method bytes headers spans framing fits found room all says =
    let head = found.0 in
    let at = found.1 in
    let reads : ReadsResponse bytes head [] = subst (λ (rest : List ℕ). ReadsResponse bytes head rest) (ap (λ (n : ℕ). drop n bytes) all ∙ drop-length bytes) at.reads in
    let lines = ap length at.fields in
    let few : length head.fields ≤ 32 = omega (arith, lines, room, length-map head.fields name_and_value, length-map (take spans.headers headers) (header_bytes bytes), length-take spans.headers headers) in
    rw (sym fits) (inl (head, (reads, few), says ∙ ap (λ code. framing_by method code (map (header_bytes bytes) (take spans.headers headers))) at.code ∙ ap (framing_by method _) at.fields))

-- its lines tell the framing where its code is 200
pub framed_by_lines : (method : Method) (bytes : List ℕ) (headers : List HeaderSpan) (spans : ResponseSpans) (framing : Result Framing AskFault) → false ≡ is_too_large bytes
    → IsResponseOf bytes headers spans → length headers ≡ 32 → spans.len ≡ length bytes → spans.code ≡ 200
    → framing ≡ framing_in method (map (header_bytes bytes) (take spans.headers headers)) → IsFramed method bytes framing
framed_by_lines method bytes headers spans framing fits found room all ok says =
    framed_by_code method bytes headers spans framing fits found room all (says ∙ ap (λ code. framing_by method code (map (header_bytes bytes) (take spans.headers headers))) (sym ok))

-- and any other code is its fault
pub framed_by_fault : (method : Method) (bytes : List ℕ) (headers : List HeaderSpan) (spans : ResponseSpans) → false ≡ is_too_large bytes
    → IsResponseOf bytes headers spans → length headers ≡ 32 → spans.len ≡ length bytes → spans.code ≢ 200 → IsFramed method bytes (Err (Http spans.code))
framed_by_fault method bytes headers spans fits found room all other =
    framed_by_code method bytes headers spans (Err (Http spans.code)) fits found room all (rw (ne_eqb spans.code 200 other) refl)

-- no framing, and no bad response, is a status code
never_framed : (framing : Framing) (said : Result Framing AskFault) (status : ℕ) → said ≡ Ok framing → said ≢ Err (Http status)
never_framed framing said status is also = cc

never_bad : (said : Result Framing AskFault) (status : ℕ) → said ≡ Err BadResponse → said ≢ Err (Http status)
never_bad said status is also = cc

never_within : (within : Bool) (len status : ℕ) → ¬ (Err (Http status) ≡ (if within then Ok (Length len) else Err BadResponse))
never_within true len status same = never_framed (Length len) (Ok (Length len)) status refl (sym same)
never_within false len status same = never_bad (Err BadResponse) status refl (sym same)

never_length : (len : Option ℕ) (status : ℕ) → ¬ (Err (Http status) ≡ by_length len)
never_length None status same = never_bad (Err BadResponse) status refl (sym same)
never_length (Some len) status same = never_within (nat_le len max_body_len) len status same

-- nor do the lines of a head tell one
never_lines : (chunked : Bool) (most : ℕ) (len : Option ℕ) (status : ℕ) → ¬ (Err (Http status) ≡ (if chunked then Ok (Chunked most) else by_length len))
never_lines true most len status same = never_framed (Chunked most) (Ok (Chunked most)) status refl (sym same)
never_lines false most len status same = never_length len status same

-- so a status code is the same whatever the call
code_any : (ok : Bool) (method other : Method) (code status : ℕ) (lines : List (List ℕ × List ℕ))
    → Err (Http status) ≡ (if ok then framing_in method lines else Err (Http code)) → Err (Http status) ≡ (if ok then framing_in other lines else Err (Http code))
code_any true method other code status lines same = absurd (never_lines (list_any is_chunked lines) (max_chunked method) (only_length lines) status same)
code_any false method other code status lines same = same

said_any : (method other : Method) (bytes : List ℕ) (status : ℕ) → IsHeadSaying method bytes (Err (Http status)) → IsHeadSaying other bytes (Err (Http status))
said_any method other bytes status (inl (head, is, says)) =
    inl (head, is, code_any (status_code head == 200) method other (status_code head) status (map name_and_value head.fields) says)
said_any method other bytes status (inr (none, says)) = inr (none, says)

sized_any : (large : Bool) (method other : Method) (bytes : List ℕ) (status : ℕ)
    → MatchBool large (◌≡◌ {A = Result Framing AskFault} (Err (Http status)) (Err BadResponse)) (IsHeadSaying method bytes (Err (Http status)))
    → MatchBool large (◌≡◌ {A = Result Framing AskFault} (Err (Http status)) (Err BadResponse)) (IsHeadSaying other bytes (Err (Http status)))
sized_any true method other bytes status says = says
sized_any false method other bytes status says = said_any method other bytes status says

pub refused_any : (method : Method) (bytes : List ℕ) (status : ℕ) → IsFramed method bytes (Err (Http status)) → (other : Method) → IsFramed other bytes (Err (Http status))
refused_any method bytes status says other = sized_any (is_too_large bytes) method other bytes status says
