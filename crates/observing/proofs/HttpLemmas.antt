-- What the parser of heads says of a status line.
use Rattle.std.proofs.Common.{ℕ, ◌≡◌, ◌≢◌, ◌≤◌, List, [], ◌∷◌, ◌++◌, length, take, drop, map, codes, refl, sym, ap, ◌∙◌, subst, arith}
use Rattle.std.proofs.Math.Seq.{take-nil}
use Rattle.std.proofs.lemmas.List.{append-nil, drop_all}
use Rattle.std.specs.Prelude.{Result, Ok, Err}
use Rattle.httparse.specs.Grammar.{Field, ReadsResponse, print_response}
use Rattle.httparse.specs.Spans.{FindsResponse, IsResponseAt, IsResponseOf, header_bytes, name_and_value}
use Rattle.httparse.specs.declared.Error.{Error}
use Rattle.httparse.specs.declared.Status.{Status}
use Rattle.httparse.specs.declared.Status.TheVariants.{Complete, Partial}
use Rattle.httparse.specs.declared.spans.HeaderSpan.{HeaderSpan}
use Rattle.httparse.specs.declared.spans.ResponseSpans.{ResponseSpans}
use Rattle.observing.specs.HttpAnswer.{IsStatusLine}

-- where no header was written there is no field
no_fields : (fields : List Field) → [] ≡ map name_and_value fields → fields ≡ []
no_fields [] none = refl
no_fields (field ∷ fields) none = cc

-- a line of which the parser found no head that is all of the bytes is no status line
pub none_found : (buf line : List ℕ) (headers : List HeaderSpan) (result : Result (Status ResponseSpans) Error) → buf ≡ line ++ codes "\n\r\n"
    → FindsResponse buf 0 headers result → ((spans : ResponseSpans) → result ≡ Ok (Complete spans) → spans.len ≢ length buf)
    → (code : ℕ) → ¬ (IsStatusLine line code)
none_found buf line headers (Ok (Complete spans)) same finds other code is =
    let reads : ReadsResponse buf is.head [] = subst (λ (b : List ℕ). ReadsResponse b is.head []) (sym same) is.reads in
    let few : length is.head.fields ≤ 0 = subst (λ (fs : List Field). length fs ≤ 0) (sym is.none) (omega arith) in
    let at : IsResponseAt buf headers spans is.head = finds is.head [] reads few in
    other spans refl (at.len ∙ ap length (sym (append-nil (print_response is.head)) ∙ sym reads.1))
none_found buf line headers (Ok Partial) same finds other code is =
    let reads : ReadsResponse buf is.head [] = subst (λ (b : List ℕ). ReadsResponse b is.head []) (sym same) is.reads in
    let few : length is.head.fields ≤ 0 = subst (λ (fs : List Field). length fs ≤ 0) (sym is.none) (omega arith) in
    absurd (finds is.head [] reads few)
none_found buf line headers (Err error) same finds other code is =
    let reads : ReadsResponse buf is.head [] = subst (λ (b : List ℕ). ReadsResponse b is.head []) (sym same) is.reads in
    let few : length is.head.fields ≤ 0 = subst (λ (fs : List Field). length fs ≤ 0) (sym is.none) (omega arith) in
    absurd (finds is.head [] reads few)

-- a head that is all of the bytes is that of its status line
pub found : (buf line : List ℕ) (headers : List HeaderSpan) (spans : ResponseSpans) → buf ≡ line ++ codes "\n\r\n"
    → IsResponseOf buf headers spans → spans.len ≡ length buf → headers ≡ [] → IsStatusLine line spans.code
found buf line headers spans same is all none =
    let rest : drop spans.len buf ≡ [] = drop_all spans.len buf (omega (arith, all)) in
    let written : map (header_bytes buf) (take spans.headers []) ≡ map name_and_value is.0.fields =
    subst (λ (hs : List HeaderSpan). map (header_bytes buf) (take spans.headers hs) ≡ map name_and_value is.0.fields) none is.1.fields in
    record {
      head = is.0;
      reads = subst (λ (b : List ℕ). ReadsResponse b is.0 []) same (subst (λ (r : List ℕ). ReadsResponse buf is.0 r) rest is.1.reads);
      none = no_fields is.0.fields (sym (ap (map (header_bytes buf)) (take-nil {A = HeaderSpan} spans.headers)) ∙ written);
      code_is = is.1.code;
    }
