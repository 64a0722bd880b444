-- The request of a client: a call of gRPC-Web (doc/PROTOCOL-WEB.md of grpc) of the health service (health.proto), as a request of
-- HTTP/1.1 (RFC 9112).
use Rattle.std.specs.Prelude.{ℕ, ◌≡◌, Option, List, ◌++◌, length, codes, decimal}
use Rattle.std.specs.Io.KnownBytes.{Appends}
use Rattle.grpc_frame.specs.Frame.{frame}
use Rattle.health_wire.specs.Request.{IsRequestBytes}
use Rattle.web_call.specs.Pieces.{IsFrontOf}
use Rattle.web_call.specs.declared.method.Method.{Method}
use Rattle.web_call.specs.declared.method.Method.TheVariants.{Check, Watch}

-- the path of a method: the package and the service of health.proto, and the method's own name
abbrev pub method_path : Method → List ℕ
method_path Check = codes "/grpc.health.v1.Health/Check"
method_path Watch = codes "/grpc.health.v1.Health/Watch"

-- the head up to the length of the body: the request line (RFC 9112, section 3), the host, which is a fixed name, the media type of
-- the body, which has messages of Protocol Buffers, and the mark of gRPC-Web
unfoldable pub request_front : Method → List ℕ
request_front method =
    codes "POST " ++ method_path method ++ codes " HTTP/1.1\r\n"
    ++ codes "host: localhost\r\n"
    ++ codes "content-type: application/grpc-web+proto\r\n"
    ++ codes "x-grpc-web: 1\r\n"
    ++ codes "content-length: "

-- the head of a request whose body has this length: it ends in an empty line
abbrev pub request_head : Method → ℕ → List ℕ
request_head method len = request_front method ++ decimal len ++ codes "\r\n" ++ codes "\r\n"

-- a head, and the body: the frame of one message
abbrev pub request_text : Method → List ℕ → List ℕ
request_text method message = request_head method (length (frame 0 message)) ++ frame 0 message

-- the text is the request for the status of the service of this name
pub record IsRequestText (method : Method) (name text : List ℕ) : Type 0 where
  pub message : List ℕ
  pub asks : IsRequestBytes message name
  pub text_is : text ≡ request_text method message

-- the request was written, whole
pub record WritesRequest (method : Method) (name : List ℕ) (contents contents_after : Option (List ℕ)) : Type 0 where
  pub text : List ℕ
  pub request : IsRequestText method name text
  pub appended : Appends contents contents_after text

-- of the request a front was written, which may be all of it
pub record WritesRequestFront (method : Method) (name : List ℕ) (contents contents_after : Option (List ℕ)) : Type 0 where
  pub text : List ℕ
  pub front : List ℕ
  pub request : IsRequestText method name text
  pub begins : IsFrontOf front text
  pub appended : Appends contents contents_after front
