-- How a request's body is read: the frame of one message (PROTOCOL-WEB.md of grpc), and in it a `HealthCheckRequest`
-- (health.proto). A server that has not a message's compression answers Unimplemented (compression.md of grpc); that this one
-- does so for every compressed message, whatever `grpc-encoding` says, and Internal for all other faults, is its choice.
use Rattle.std.specs.Prelude.{ℕ, List, codes, Ok, Err}
use Rattle.std.specs.Str.{IsUtf8}
use Rattle.grpc_frame.specs.declared.code.Code.{Code}
use Rattle.grpc_frame.specs.declared.code.Code.TheVariants.{Internal, Unimplemented}
use Rattle.grpc_frame.specs.declared.fault.FrameFault.{FrameFault}
use Rattle.grpc_frame.specs.declared.fault.FrameFault.TheVariants.{Truncated, Compressed, NoMessage, MoreThanOne, TrailerInRequest, BadFlag}
use Rattle.grpc_frame.specs.Message.{IsOneMessage}
use Rattle.grpc_frame.specs.Trailers.{IsStatusText}
use Rattle.health_wire.specs.declared.fault.WireFault.{WireFault}
use Rattle.health_wire.specs.Request.{IsRequest, IsRequestFault}
use Rattle.web_call.specs.declared.ask.Ask.{Ask}
use Rattle.web_call.specs.declared.ask.Ask.TheVariants.{Status, Check as CheckOf, Watch as WatchOf}
use Rattle.web_call.specs.declared.method.Method.{Method}
use Rattle.web_call.specs.declared.method.Method.TheVariants.{Check, Watch}

-- a request, apart from where its name lies in memory
pub data Asked : Type 0 where
  Refused : Code → List ℕ → Asked
  Checked : List ℕ → Asked
  Watched : List ℕ → Asked

-- a request that was read, with its texts as bytes
abbrev pub asked_of : Ask → Asked
asked_of (Status code text) = Refused code text.now
asked_of (CheckOf name) = Checked name.now
asked_of (WatchOf name) = Watched name.now

-- the status that refuses a body for a fault of its frames
abbrev pub refusal : FrameFault → Asked
refusal Compressed = Refused Unimplemented (codes "compressed message")
refusal Truncated = Refused Internal (codes "malformed request")
refusal NoMessage = Refused Internal (codes "malformed request")
refusal MoreThanOne = Refused Internal (codes "malformed request")
refusal TrailerInRequest = Refused Internal (codes "malformed request")
refusal BadFlag = Refused Internal (codes "malformed request")

-- what a call of the method for this service asks
abbrev pub asked_for : Method → List ℕ → Asked
asked_for Check name = Checked name
asked_for Watch name = Watched name

-- what the body asks, by rules: a fault of the frames, then one of the message, then the name
pub data IsAsked (method : Method) (body : List ℕ) : Asked → Type 0 where
  BadFrame : (fault : FrameFault) → IsOneMessage body (Err fault) → IsAsked method body (refusal fault)
  BadMessage : (message : List ℕ) (fault : WireFault) → IsOneMessage body (Ok message) → IsRequestFault message fault → IsAsked method body (Refused Internal (codes "malformed request"))
  Asks : (message name : List ℕ) → IsOneMessage body (Ok message) → IsRequest message name → IsUtf8 name → IsAsked method body (asked_for method name)

-- a refusal has a text that trailers take
abbrev pub HasStatusText : Asked → Type 0
HasStatusText (Refused code text) = IsStatusText text
HasStatusText (Checked name) = Unit {0}
HasStatusText (Watched name) = Unit {0}
