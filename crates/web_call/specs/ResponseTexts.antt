-- The texts of responses (RFC 9112; the frames of PROTOCOL-WEB.md of grpc), as pieces of which the frames are counted.
use Rattle.std.specs.Prelude.{ℕ, ◌==◌, false, IsTrue, if◌then◌else◌, Option, None, Some, List, [], ◌∷◌, ◌++◌, length, map, flat_map, codes, decimal}
use Rattle.std.specs.Fmt.{digits}
use Rattle.std.specs.List.{list_any}
use Rattle.grpc_frame.specs.declared.code.Code.{Code}
use Rattle.grpc_frame.specs.declared.code.Code.TheVariants.{Ok, NotFound, Unavailable}
use Rattle.grpc_frame.specs.Frame.{frame}
use Rattle.grpc_frame.specs.Trailers.{block}
use Rattle.health_wire.specs.declared.serving.Serving.{Serving}
use Rattle.health_wire.specs.Response.{response_bytes}
use Rattle.web_call.specs.Pieces.{Piece, plain, framed, text_of}

-- the end of a line
abbrev pub crlf : List ℕ
crlf = codes "\r\n"

-- the HTTP statuses that refuse a request
abbrev pub IsRefusal : ℕ → Type 0
IsRefusal http = IsTrue (list_any (λ status. status == http) (400 ∷ 405 ∷ 411 ∷ 415 ∷ 431 ∷ 505 ∷ []))

-- the first line of a refusal
abbrev pub refusal_line : ℕ → List ℕ
refusal_line http =
    if http == 400 then codes "HTTP/1.1 400 Bad Request\r\n" else
    (if http == 405 then codes "HTTP/1.1 405 Method Not Allowed\r\n" else
    (if http == 411 then codes "HTTP/1.1 411 Length Required\r\n" else
    (if http == 415 then codes "HTTP/1.1 415 Unsupported Media Type\r\n" else
    (if http == 431 then codes "HTTP/1.1 431 Request Header Fields Too Large\r\n" else
    codes "HTTP/1.1 505 HTTP Version Not Supported\r\n"))))

-- the line that a refused method is answered with (RFC 9110, section 15.5.6)
abbrev pub allow_line : ℕ → List ℕ
allow_line http = if http == 405 then codes "allow: POST\r\n" else []

-- a request that is refused by HTTP: a head, and no body
abbrev pub refusal_pieces : ℕ → List Piece
refusal_pieces http =
    plain (refusal_line http ++ codes "connection: close\r\n" ++ allow_line http ++ codes "content-length: 0\r\n\r\n") ∷ []

-- the head of a response whose body has this length
abbrev pub body_head : ℕ → List ℕ
body_head len =
    codes "HTTP/1.1 200 OK\r\nconnection: close\r\ncontent-type: application/grpc-web+proto\r\ncontent-length: " ++ decimal len ++ codes "\r\n\r\n"

-- a head and the frames that are the body
abbrev pub framed_response : List (List ℕ) → List Piece
framed_response frames = plain (body_head (length (flat_map (λ bytes. bytes) frames))) ∷ map framed frames

-- the frame of a status's message
abbrev pub message_frame : Serving → List ℕ
message_frame status = frame 0 (response_bytes status)

-- a call that ends with a status alone
abbrev pub status_pieces : Code → List ℕ → List Piece
status_pieces code text = framed_response (frame 128 (block code text) ∷ [])

-- the response to a Check: the message of the status and the trailers of OK, or the trailers of NOT_FOUND for a name that is
-- not registered (health-checking.md of grpc)
abbrev pub check_pieces : Option Serving → List Piece
check_pieces (Some status) = framed_response (message_frame status ∷ frame 128 (block Ok []) ∷ [])
check_pieces None = status_pieces NotFound (codes "unknown service")

-- the head of a Watch's response, whose body has no length in advance
abbrev pub watch_head_text : List ℕ
watch_head_text =
    codes "HTTP/1.1 200 OK\r\nconnection: close\r\ncontent-type: application/grpc-web+proto\r\ntransfer-encoding: chunked\r\n\r\n"

-- a frame as a chunk (RFC 9112, section 7.1): its length in hexadecimal digits, lower case and without leading zeros, and the frame
abbrev pub chunk : List ℕ → List Piece
chunk bytes = plain (digits 16 false (length bytes) ++ crlf) ∷ framed bytes ∷ plain crlf ∷ []

-- the message of a status as a chunk
abbrev pub message_chunk : Serving → List Piece
message_chunk status = chunk (message_frame status)

-- the end of a Watch: the trailers of UNAVAILABLE as a chunk, and the last chunk, which is empty
abbrev pub watch_end : List Piece
watch_end = chunk (frame 128 (block Unavailable (codes "watch ended"))) ++ plain (codes "0\r\n\r\n") ∷ []

-- the texts of these responses
abbrev pub refusal_response : ℕ → List ℕ
refusal_response http = text_of (refusal_pieces http)

abbrev pub status_response : Code → List ℕ → List ℕ
status_response code text = text_of (status_pieces code text)

abbrev pub check_response : Option Serving → List ℕ
check_response status = text_of (check_pieces status)
