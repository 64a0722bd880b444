-- Trailers: header lines of HTTP/1 in the last frame of a response (doc/PROTOCOL-WEB.md of grpc).
use Rattle.std.specs.Prelude.{ℕ, ◌≤◌, ◌==◌, ◌&&◌, not, Bool, IsTrue, nat_le, if◌then◌else◌, Option, Some, None, Result, Ok, Err, unwrap_or, List, [], ◌++◌, length, codes, decimal}
use Rattle.std.specs.List.{list_all}
use Rattle.std.specs.Char.{is_ascii_digit}
use Rattle.std.specs.Str.Parse.{digits_value}
use Rattle.grpc_frame.specs.declared.code.Code.{Code}
use Rattle.grpc_frame.specs.declared.fault.TrailerFault.{TrailerFault}
use Rattle.grpc_frame.specs.declared.fault.TrailerFault.TheVariants.{NoColon, NoStatus, BadStatus}
use Rattle.grpc_frame.specs.Code.{code_number}
use Rattle.grpc_frame.specs.Lines.{has_colon, value_of}

-- a header line: a name with its colon, a value, CR LF
abbrev pub header_line : List ℕ → List ℕ → List ℕ
header_line name value = name ++ value ++ codes "\r\n"

-- the line with the text of a status, which Ok has not
abbrev pub text_line : Code → List ℕ → List ℕ
text_line code text = if code_number code == 0 then [] else header_line (codes "grpc-message:") text

-- the trailers of a status: its number, and its text
abbrev pub block : Code → List ℕ → List ℕ
block code text = header_line (codes "grpc-status:") (decimal (code_number code)) ++ text_line code text

-- a character that a status text has as it is: printable ASCII but for `%` (doc/PROTOCOL-HTTP2.md of grpc, Percent-Byte-Unencoded)
abbrev pub is_unencoded : ℕ → Bool
is_unencoded c = nat_le 32 c && nat_le c 126 && not (c == 37)

-- a status text that needs no encoding, of at most 128 characters
pub record IsStatusText (text : List ℕ) : Type 0 where
  pub short : length text ≤ 128
  pub unencoded : IsTrue (list_all is_unencoded text)

-- the text that the trailers of a status hold
abbrev pub written_text : Code → List ℕ → List ℕ
written_text code text = if code_number code == 0 then [] else text

-- one to nine ASCII digits
abbrev pub is_number : List ℕ → Bool
is_number digits = nat_le 1 (length digits) && nat_le (length digits) 9 && list_all is_ascii_digit digits

-- the number and the text of a status, where the value of its line stands there and is a number
abbrev pub status_of : Option (List ℕ) → List ℕ → Result (ℕ × List ℕ) TrailerFault
status_of None text = Err NoStatus
status_of (Some digits) text = if is_number digits then Ok (digits_value 10 digits, text) else Err BadStatus

-- what the lines of a response's trailers tell. A line without a colon counts before other faults, and no text is the empty one
abbrev pub trailers_in : List (List ℕ) → Result (ℕ × List ℕ) TrailerFault
trailers_in all =
    if list_all has_colon all
    then status_of (value_of (codes "grpc-status") all) (unwrap_or (value_of (codes "grpc-message") all) [])
    else Err NoColon
