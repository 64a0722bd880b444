-- The answer to the head of a request, apart from where its text lies in memory.
use Rattle.std.specs.Prelude.{ℕ, ◌≤◌, List, ⊤}
use Rattle.grpc_frame.specs.declared.code.Code.{Code}
use Rattle.grpc_frame.specs.Trailers.{IsStatusText}
use Rattle.web_call.specs.ResponseTexts.{IsRefusal}
use Rattle.web_call.specs.declared.head.Headed.{Headed}
use Rattle.web_call.specs.declared.head.Headed.TheVariants.{Http, Status, Body}
use Rattle.web_call.specs.declared.method.Method.{Method}

-- the longest body that is asked for, in bytes, which is this server's limit
abbrev pub max_body_len : ℕ
max_body_len = 8192

-- what answers a head
pub data HeadAnswer : Type 0 where
  -- a status code of HTTP refuses the request
  Refused : ℕ → HeadAnswer
  -- a status of gRPC ends the call, with a text
  Ended : Code → List ℕ → HeadAnswer
  -- the method is asked for, by a body of this length
  Asked : Method → ℕ → HeadAnswer

-- an answer, with its text as bytes
abbrev pub headed_as : Headed → HeadAnswer
headed_as (Http http) = Refused http
headed_as (Status code text) = Ended code text.now
headed_as (Body method length) = Asked method length

-- a refusal is one of those that have a text
abbrev pub HasRefusal : HeadAnswer → Type 0
HasRefusal (Refused http) = IsRefusal http
HasRefusal (Ended code text) = ⊤
HasRefusal (Asked method length) = ⊤

-- the text of a status is one that trailers take
abbrev pub HasStatusText : HeadAnswer → Type 0
HasStatusText (Refused http) = ⊤
HasStatusText (Ended code text) = IsStatusText text
HasStatusText (Asked method length) = ⊤

-- a body that is asked for is within the limit
abbrev pub HasBodyLength : HeadAnswer → Type 0
HasBodyLength (Refused http) = ⊤
HasBodyLength (Ended code text) = ⊤
HasBodyLength (Asked method length) = length ≤ max_body_len
