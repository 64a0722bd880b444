-- What the bytes of a response are to a call, all cases together.
use Rattle.std.specs.Prelude.{ℕ, ◌≡◌, Option, Some, None, List}
use Rattle.web_call.specs.declared.method.Method.{Method}
use Rattle.client.specs.declared.told.Ended.{Ended}
use Rattle.client.specs.Reply.{IsBad, IsOpen, IsRefused, IsTold}

-- statuses with the code and the text of the end, if there is one; or more bytes have to be read; or the response is bad; or another
-- status code of HTTP
pub data Meaning : Type 0 where
  Telling : (statuses : List ℕ) (end : Option (ℕ × List ℕ)) → Meaning
  Open : Meaning
  Bad : Meaning
  Refused : (status : ℕ) → Meaning

-- the code and the text of an end
abbrev pub words_of : Option Ended → Option (ℕ × List ℕ)
words_of None = None
words_of (Some ended) = Some (ended.code, ended.text.items)

-- the bytes mean this to the call
abbrev pub Means : Method → ℕ → List ℕ → Meaning → Type 0
Means method most bytes (Telling statuses end) = (ended : Option Ended) × IsTold method most bytes statuses ended × (end ≡ words_of ended)
Means method most bytes Open = IsOpen method most bytes
Means method most bytes Bad = IsBad method most bytes
Means method most bytes (Refused status) = IsRefused bytes status
