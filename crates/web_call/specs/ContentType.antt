-- The content type of a request (doc/PROTOCOL-WEB.md of grpc; RFC 9110, section 8.3).
use Rattle.std.specs.Prelude.{ℕ, Bool, false, ◌||◌, ◌==◌, List, codes}
use Rattle.std.specs.List.{before_first}
use Rattle.std.specs.Option.{option_map_or}
use Rattle.std.specs.Str.{str_eq_ignore_ascii_case}
use Rattle.grpc_frame.specs.Lines.{trim}
use Rattle.web_call.specs.Lines.{first_named}

-- the byte is a semicolon
abbrev pub is_semicolon : ℕ → Bool
is_semicolon c = c == 59

-- the media type, which stands before the first semicolon, without the spaces and tabs at both ends
abbrev pub media_type : List ℕ → List ℕ
media_type value = trim (before_first is_semicolon value)

-- the media type is that of binary gRPC-Web with messages of Protocol Buffers, but for the case of ASCII letters
abbrev pub is_grpc_web : List ℕ → Bool
is_grpc_web type =
    str_eq_ignore_ascii_case type (codes "application/grpc-web")
    || str_eq_ignore_ascii_case type (codes "application/grpc-web+proto")

-- the first content-type line has that media type
abbrev pub has_grpc_web : List (List ℕ × List ℕ) → Bool
has_grpc_web lines =
    option_map_or (λ value. is_grpc_web (media_type value)) (first_named (codes "content-type") lines) false
