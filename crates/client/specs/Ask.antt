-- What a client has written and read at the end of its call, by its answer.
use Rattle.std.specs.Prelude.{ℕ, ◌≡◌, ◌≤◌, ◌⊎◌, IsSome, vec_len, Bool, true, Option, Result, Ok, Err, List, [], ◌++◌}
use Rattle.std.specs.Io.KnownBytes.{Consumes, Keeps}
use Rattle.web_call.specs.declared.method.Method.{Method}
use Rattle.web_call.specs.declared.method.Method.TheVariants.{Check, Watch}
use Rattle.client.specs.declared.ask_fault.AskFault.{AskFault}
use Rattle.client.specs.declared.ask_fault.AskFault.TheVariants.{Read, Write, BadResponse, Http, NoMemory}
use Rattle.client.specs.declared.told.Told.{Told}
use Rattle.client.specs.Reply.{IsBad, IsOpen, IsRefused, IsTold, WasOpen}
use Rattle.client.specs.Request.{WritesRequest, WritesRequestFront}

-- of the request all was written, but where a write failed a front of it, and where memory ran out all of it or nothing
abbrev pub IsSentFor : Result Told AskFault → Method → List ℕ → Option (List ℕ) → Option (List ℕ) → Type 0
IsSentFor (Ok told) method name contents after = WritesRequest method name contents after
IsSentFor (Err Read) method name contents after = WritesRequest method name contents after
IsSentFor (Err Write) method name contents after = WritesRequestFront method name contents after
IsSentFor (Err BadResponse) method name contents after = WritesRequest method name contents after
IsSentFor (Err (Http status)) method name contents after = WritesRequest method name contents after
IsSentFor (Err NoMemory) method name contents after = Keeps contents after ⊎ WritesRequest method name contents after

-- a Check is told its end, and a Watch so many statuses at most
pub record IsAnswerTo (method : Method) (most : ℕ) (told : Told) : Type 0 where
  pub check : method ≡ Check → IsSome told.end
  pub watch : method ≡ Watch → vec_len told.statuses ≤ most

-- no byte came but those that had to be read: none at all, or more bytes had to be read before the last one came
abbrev pub IsWithin : Method → ℕ → List ℕ → Type 0
IsWithin method most bytes = (bytes ≡ []) ⊎ WasOpen method most bytes

-- what the bytes are that a call has read: those that tell the answer, or show the fault, and no byte behind them; at Read more of them
-- had to come
abbrev pub Says : Result Told AskFault → Method → ℕ → List ℕ → Type 0
Says (Ok told) method most bytes = IsTold method most bytes told.statuses.items told.end × WasOpen method most bytes
Says (Err Read) method most bytes = IsOpen method most bytes
Says (Err Write) method most bytes = bytes ≡ []
Says (Err BadResponse) method most bytes = IsBad method most bytes × WasOpen method most bytes
Says (Err (Http status)) method most bytes = IsRefused bytes status × WasOpen method most bytes
Says (Err NoMemory) method most bytes = IsWithin method most bytes

-- what a fault says of the last bytes that came, behind the front of a response of which more had to come
abbrev pub IsFaultAt : AskFault → Method → ℕ → (front piece : List ℕ) → Type 0
IsFaultAt Read method most front piece = piece ≡ []
IsFaultAt Write method most front piece = ⊥
IsFaultAt BadResponse method most front piece = IsBad method most (front ++ piece) × WasOpen method most (front ++ piece)
IsFaultAt (Http status) method most front piece = IsRefused (front ++ piece) status × WasOpen method most (front ++ piece)
IsFaultAt NoMemory method most front piece = WasOpen method most (front ++ piece)

-- the reader lost these bytes, and no more
abbrev pub IsReadFor : Result Told AskFault → Method → ℕ → Option (List ℕ) → Option (List ℕ) → Type 0
IsReadFor result method most remaining after = (bytes : List ℕ) × Consumes remaining after bytes × Says result method most bytes

-- through the reader a read failed just at Read
abbrev pub HasReadCause : {T : Type 0} → Result T AskFault → (failed failed_after : Bool) → Type 0
HasReadCause (Ok value) failed failed_after = failed_after ≡ failed
HasReadCause (Err Read) failed failed_after = failed_after ≡ true
HasReadCause (Err Write) failed failed_after = failed_after ≡ failed
HasReadCause (Err BadResponse) failed failed_after = failed_after ≡ failed
HasReadCause (Err (Http status)) failed failed_after = failed_after ≡ failed
HasReadCause (Err NoMemory) failed failed_after = failed_after ≡ failed

-- through the writer a write or a flush failed just at Write
abbrev pub HasWriteCause : {T : Type 0} → Result T AskFault → (failed failed_after : Bool) → Type 0
HasWriteCause (Ok value) failed failed_after = failed_after ≡ failed
HasWriteCause (Err Read) failed failed_after = failed_after ≡ failed
HasWriteCause (Err Write) failed failed_after = failed_after ≡ true
HasWriteCause (Err BadResponse) failed failed_after = failed_after ≡ failed
HasWriteCause (Err (Http status)) failed failed_after = failed_after ≡ failed
HasWriteCause (Err NoMemory) failed failed_after = failed_after ≡ failed
