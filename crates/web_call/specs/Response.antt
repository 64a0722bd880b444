-- The body of a Check's response: a message, and then trailers (PROTOCOL-WEB.md of grpc).
use Rattle.std.specs.Prelude.{ℕ, Option, None, Some, List, [], ◌++◌, codes}
use Rattle.grpc_frame.specs.declared.code.Code.TheVariants.{Ok, NotFound}
use Rattle.grpc_frame.specs.Frame.{frame}
use Rattle.grpc_frame.specs.Trailers.{block}
use Rattle.health_wire.specs.declared.serving.Serving.{Serving}
use Rattle.health_wire.specs.Response.{response_bytes}

-- the message of a status and then the trailers of OK; for a name that is not registered, the trailers of NOT_FOUND alone
-- (health-checking.md of grpc)
abbrev pub check_body_text : Option Serving → List ℕ
check_body_text (Some status) = frame 0 (response_bytes status) ++ frame 128 (block Ok [])
check_body_text None = frame 128 (block NotFound (codes "unknown service"))
