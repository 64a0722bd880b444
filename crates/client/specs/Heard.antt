-- What the listener of a Watch has heard, by what was read.
use Rattle.std.specs.Prelude.{ℕ, ◌≡◌, Bool, true, false, Option, Result, Ok, Err, List, [], length}
use Rattle.std.specs.Io.KnownBytes.{Appends, Consumes}
use Rattle.web_call.specs.InputHead.{IsOpenHead}
use Rattle.web_call.specs.Pieces.{IsFrontOf}
use Rattle.web_call.specs.declared.method.Method.TheVariants.{Watch}
use Rattle.client.specs.declared.ask_fault.AskFault.{AskFault}
use Rattle.client.specs.declared.ask_fault.AskFault.TheVariants.{Read, Write, BadResponse, Http, NoMemory}
use Rattle.client.specs.declared.response_body.Next.{Next}
use Rattle.client.specs.declared.told.Told.{Told}
use Rattle.client.specs.Reply.{IsReply}

-- how many statuses are all that is wanted: as many as were asked for, or as many as were told where the listener then had enough
abbrev pub wanted_by_end : Result Told AskFault → (most : ℕ) → (has_enough : Bool) → ℕ
wanted_by_end (Ok told) most true = length told.statuses.items
wanted_by_end (Ok told) most false = most
wanted_by_end (Err fault) most has_enough = most

-- the statuses that the bytes of a Watch's response tell so far: in its head none, and in its body those of its whole frames
pub data TellSoFar (bytes statuses : List ℕ) : Type 0 where
  InHead : IsOpenHead bytes → statuses ≡ [] → TellSoFar bytes statuses
  InBody : (next : Next) (more : ℕ) (rest : List ℕ) → IsReply Watch bytes next more statuses rest → TellSoFar bytes statuses

-- a front of the bytes tells these statuses so far
pub record HaveTold (bytes statuses : List ℕ) : Type 0 where
  pub front : List ℕ
  pub is_front : IsFrontOf front bytes
  pub tell : TellSoFar front statuses

-- which statuses were heard of these bytes: at the end all that were told, and where no more came all that had come
abbrev pub Hears : Result Told AskFault → (bytes statuses : List ℕ) → Type 0
Hears (Ok told) bytes statuses = statuses ≡ told.statuses.items
Hears (Err Read) bytes statuses = TellSoFar bytes statuses
Hears (Err Write) bytes statuses = statuses ≡ []
Hears (Err BadResponse) bytes statuses = HaveTold bytes statuses
Hears (Err (Http status)) bytes statuses = HaveTold bytes statuses
Hears (Err NoMemory) bytes statuses = HaveTold bytes statuses

-- the reader lost some bytes, and the listener was told the statuses that are heard of them
abbrev pub IsHeardFor : Result Told AskFault → (remaining after heard heard_after : Option (List ℕ)) → Type 0
IsHeardFor result remaining after heard heard_after =
    (bytes : List ℕ) × (statuses : List ℕ) × Consumes remaining after bytes × Appends heard heard_after statuses × Hears result bytes statuses
