-- gRPC's status codes (doc/statuscodes.md of grpc), those that a health server sends.
use Rattle.std.specs.Prelude.{ℕ}
use Rattle.grpc_frame.specs.declared.code.Code.{Code}
use Rattle.grpc_frame.specs.declared.code.Code.TheVariants.{Ok, NotFound, ResourceExhausted, Unimplemented, Internal, Unavailable}

-- the number of a status code
abbrev pub code_number : Code → ℕ
code_number Ok = 0
code_number NotFound = 5
code_number ResourceExhausted = 8
code_number Unimplemented = 12
code_number Internal = 13
code_number Unavailable = 14
