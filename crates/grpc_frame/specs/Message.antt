-- A request's body that has to be the frame of one message (doc/PROTOCOL-WEB.md of grpc).
use Rattle.std.specs.Prelude.{ℕ, ◌≡◌, ◌≢◌, ◌==◌, ◌^◌, ◌<◌, nat_lt, if◌then◌else◌, List, [], ◌∷◌, ◌++◌, length, Result, Ok, Err}
use Rattle.grpc_frame.specs.declared.fault.FrameFault.{FrameFault}
use Rattle.grpc_frame.specs.declared.fault.FrameFault.TheVariants.{Truncated, Compressed, NoMessage, MoreThanOne, TrailerInRequest, BadFlag}
use Rattle.grpc_frame.specs.Frame.{frame}

-- the bytes begin with the frame of a message that is not compressed, and the rest comes behind it
pub record BeginsWith (bytes message rest : List ℕ) : Type 0 where
  pub fits : length message < 2 ^ 32
  pub parts : bytes ≡ frame 0 message ++ rest

-- the bytes begin with no such frame
abbrev pub BeginsWithNone : List ℕ → Type 0
BeginsWithNone bytes = (message rest : List ℕ) → ¬ BeginsWith bytes message rest

-- the bytes begin with one such frame at most: one message, and one rest behind it
abbrev pub HasOneFront : List ℕ → Type 0
HasOneFront bytes =
    (message rest other more : List ℕ) → BeginsWith bytes message rest → BeginsWith bytes other more → (message ≡ other) × (rest ≡ more)

-- the bytes begin with two such frames, one behind the other
pub record BeginsWithTwo (bytes : List ℕ) : Type 0 where
  pub first : List ℕ
  pub second : List ℕ
  pub between : List ℕ
  pub rest : List ℕ
  pub front : BeginsWith bytes first between
  pub next : BeginsWith between second rest

-- what is wrong with bytes that begin with no such frame: there are none; or by their flag, which counts before the length,
-- 0 is a message that is cut, 1 a compressed one, the top bit marks trailers, and no other flag is defined
abbrev pub fault_at : List ℕ → FrameFault
fault_at [] = NoMessage
fault_at (flag ∷ more) =
    if flag == 0 then Truncated else (if flag == 1 then Compressed else (if nat_lt flag 128 then BadFlag else TrailerInRequest))

-- what reading the body answers, by rules
pub data IsOneMessage (body : List ℕ) : Result (List ℕ) FrameFault → Type 0 where
  -- one such frame and nothing behind it: its message
  Whole : (message : List ℕ) → BeginsWith body message [] → IsOneMessage body (Ok message)
  -- two such frames, whatever comes behind them
  Two : BeginsWithTwo body → IsOneMessage body (Err MoreThanOne)
  -- no such frame at the front
  NoFirst : BeginsWithNone body → IsOneMessage body (Err (fault_at body))
  -- one such frame, and behind it bytes that begin with no second one
  NoSecond : (message rest : List ℕ) → BeginsWith body message rest → rest ≢ [] → BeginsWithNone rest
      → IsOneMessage body (Err (fault_at rest))

-- the rules give the body one answer at most
abbrev pub HasOneAnswer : List ℕ → Type 0
HasOneAnswer body =
    (answer other : Result (List ℕ) FrameFault) → IsOneMessage body answer → IsOneMessage body other → answer ≡ other
