-- The methods of gRPC's health service (health.proto), by the path of each (doc/PROTOCOL-HTTP2.md of grpc, Path).
use Rattle.std.specs.Prelude.{ℕ, if◌then◌else◌, List, Option, Some, None, codes}
use Rattle.std.specs.Str.{bytes_eq}
use Rattle.web_call.specs.declared.method.Method.{Method}
use Rattle.web_call.specs.declared.method.Method.TheVariants.{Check, Watch}

-- the method whose path the target is, byte for byte: a query makes it another target, and so does the absolute form
abbrev pub method_of : List ℕ → Option Method
method_of target =
    if bytes_eq target (codes "/grpc.health.v1.Health/Check") then Some Check
    else (if bytes_eq target (codes "/grpc.health.v1.Health/Watch") then Some Watch else None)
