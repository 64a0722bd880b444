-- What the head of a response says of its body (RFC 9112, sections 2 to 6). The limits are this client's choice.
use Rattle.std.specs.Prelude.{ℕ, ◌≡◌, ◌⊎◌, ◌≤◌, Bool, ◌==◌, ◌&&◌, if◌then◌else◌, nat_le, List, [], length, map, Option, Some, None, Result, Ok, Err, MatchBool, codes}
use Rattle.std.specs.List.{list_any}
use Rattle.std.specs.Str.{str_eq_ignore_ascii_case}
use Rattle.httparse.specs.Grammar.{ResponseHead, ReadsResponse, status_code}
use Rattle.httparse.specs.Spans.{name_and_value}
use Rattle.web_call.specs.ContentLength.{length_of}
use Rattle.web_call.specs.Head.{is_too_large}
use Rattle.web_call.specs.Lines.{count_named, first_named, is_named}
use Rattle.web_call.specs.declared.method.Method.{Method}
use Rattle.web_call.specs.declared.method.Method.TheVariants.{Check, Watch}
use Rattle.client.specs.declared.ask_fault.AskFault.{AskFault}
use Rattle.client.specs.declared.ask_fault.AskFault.TheVariants.{BadResponse, Http}
use Rattle.client.specs.declared.http_framing.Framing.{Framing}
use Rattle.client.specs.declared.http_framing.Framing.TheVariants.{Chunked, Length}

-- the longest body by its length, and the most bytes of content in a Watch's chunks, which are this client's limits
abbrev pub max_body_len : ℕ
max_body_len = 1048576

abbrev pub max_chunked_len : ℕ
max_chunked_len = 1073741824

-- the most bytes of content in chunks: a Check's may have no more than by their length
abbrev pub max_chunked : Method → ℕ
max_chunked Check = max_body_len
max_chunked Watch = max_chunked_len

-- the line says that the body comes in chunks (RFC 9112, section 6.1)
abbrev pub is_chunked : List ℕ × List ℕ → Bool
is_chunked line = is_named (codes "transfer-encoding") line && str_eq_ignore_ascii_case line.1 (codes "chunked")

-- the length of the body, where just one line tells it
abbrev pub only_length : List (List ℕ × List ℕ) → Option ℕ
only_length lines =
    if count_named (codes "content-length") lines == 1 then length_of (first_named (codes "content-length") lines) else None

-- a length up to the limit frames the body; without one nothing tells where it ends
abbrev pub by_length : Option ℕ → Result Framing AskFault
by_length None = Err BadResponse
by_length (Some len) = if nat_le len max_body_len then Ok (Length len) else Err BadResponse

-- how the lines say that the body ends: chunks count before a length (RFC 9112, section 6.3)
abbrev pub framing_in : Method → List (List ℕ × List ℕ) → Result Framing AskFault
framing_in method lines = if list_any is_chunked lines then Ok (Chunked (max_chunked method)) else by_length (only_length lines)

-- what a whole head says: another status code than 200 counts before all else
abbrev pub framing_by : Method → ℕ → List (List ℕ × List ℕ) → Result Framing AskFault
framing_by method code lines = if code == 200 then framing_in method lines else Err (Http code)

-- the bytes are just this head, with 32 header lines at most
abbrev pub IsExactly : List ℕ → ResponseHead → Type 0
IsExactly bytes head = ReadsResponse bytes head [] × (length head.fields ≤ 32)

-- bytes within the limits are a head, which says so, or none, which is a bad response
abbrev pub IsHeadSaying : Method → List ℕ → Result Framing AskFault → Type 0
IsHeadSaying method bytes framing =
    ((head : ResponseHead) × IsExactly bytes head × (framing ≡ framing_by method (status_code head) (map name_and_value head.fields)))
    ⊎ (((head : ResponseHead) → ¬ IsExactly bytes head) × (framing ≡ Err BadResponse))

-- what the bytes say as a head of a response to such a call: that they are too large comes first
abbrev pub IsFramed : Method → List ℕ → Result Framing AskFault → Type 0
IsFramed method bytes framing = MatchBool (is_too_large bytes) (framing ≡ Err BadResponse) (IsHeadSaying method bytes framing)
