-- The head of a request and its answer (RFC 9112, sections 2, 3, 5 and 6; status codes of RFC 9110, section 15, and
-- RFC 6585, section 5). The limits, and the order in which faults are looked for, are this server's choice.
use Rattle.std.specs.Prelude.{ℕ, ◌≡◌, ◌⊎◌, ◌≤◌, Bool, ◌==◌, ◌&&◌, ◌||◌, not, if◌then◌else◌, nat_le, nat_lt, List, [], length, map, count_by, Option, Some, None, is_some, MatchBool, codes}
use Rattle.std.specs.Str.{bytes_eq}
use Rattle.grpc_frame.specs.declared.code.Code.TheVariants.{ResourceExhausted, Unimplemented}
use Rattle.httparse.specs.Grammar.{RequestHead, ReadsRequest}
use Rattle.httparse.specs.Spans.{name_and_value}
use Rattle.web_call.specs.ContentLength.{content_length}
use Rattle.web_call.specs.ContentType.{has_grpc_web}
use Rattle.web_call.specs.HeadAnswer.{HeadAnswer, Refused, Ended, Asked, max_body_len}
use Rattle.web_call.specs.InputHead.{max_head_len, ends_blank}
use Rattle.web_call.specs.Lines.{first_named}
use Rattle.web_call.specs.Method.{method_of}
use Rattle.web_call.specs.declared.method.Method.{Method}

-- the bytes are as many as a head may have, or more, and don't end in CR LF CR LF
abbrev pub is_too_long : List ℕ → Bool
is_too_long bytes = nat_le max_head_len (length bytes) && not (ends_blank bytes)

-- the bytes hold more line feeds than a request line, 32 header lines and the empty line
abbrev pub has_too_many_lines : List ℕ → Bool
has_too_many_lines bytes = nat_lt 34 (count_by (λ byte. byte == 10) bytes)

-- the bytes are no head within the limits
abbrev pub is_too_large : List ℕ → Bool
is_too_large bytes = is_too_long bytes || has_too_many_lines bytes

-- the bytes are just this head, with 32 header lines at most
abbrev pub IsExactly : List ℕ → RequestHead → Type 0
IsExactly bytes head = ReadsRequest bytes head [] × (length head.fields ≤ 32)

-- the answer where the target names this method, or none
abbrev pub method_answer : Option Method → ℕ → HeadAnswer
method_answer None len = Ended Unimplemented (codes "unknown method")
method_answer (Some method) len = Asked method len

-- the answer where the header lines tell this length of the body, or none. The first fault counts: lines that tell no length, the
-- version, the method of HTTP, the content type, a transfer coding, a length over the limit, the target
abbrev pub length_answer : Option ℕ → List (List ℕ × List ℕ) → List ℕ → List ℕ → ℕ → HeadAnswer
length_answer None lines method target minor = Refused 400
length_answer (Some len) lines method target minor =
    if minor == 0 then Refused 505
    else (if not (bytes_eq method (codes "POST")) then Refused 405
    else (if not (has_grpc_web lines) then Refused 415
    else (if is_some (first_named (codes "transfer-encoding") lines) then Refused 411
    else (if nat_lt max_body_len len then Ended ResourceExhausted (codes "request too large")
    else method_answer (method_of target) len))))

-- the answer to header lines, a method, a target and the minor number of the version
abbrev pub answer_to : List (List ℕ × List ℕ) → List ℕ → List ℕ → ℕ → HeadAnswer
answer_to lines method target minor = length_answer (content_length lines) lines method target minor

-- the answer to a whole head
abbrev pub head_answer : RequestHead → HeadAnswer
head_answer head = answer_to (map name_and_value head.fields) head.method head.target head.minor

-- the answer to bytes that are not too large: that of the head that they are, or a refusal where they are none
abbrev pub IsAnsweredHead : List ℕ → HeadAnswer → Type 0
IsAnsweredHead bytes answer =
    ((head : RequestHead) × IsExactly bytes head × (answer ≡ head_answer head))
    ⊎ (((head : RequestHead) → ¬ IsExactly bytes head) × (answer ≡ Refused 400))

-- what the bytes are answered: that they are too large comes first
abbrev pub IsHeaded : List ℕ → HeadAnswer → Type 0
IsHeaded bytes answer = MatchBool (is_too_large bytes) (answer ≡ Refused 431) (IsAnsweredHead bytes answer)
