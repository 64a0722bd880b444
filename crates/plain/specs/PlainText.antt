-- What a request that is no call is answered by, and its head (RFC 9112, section 2.1).
use Rattle.std.specs.Prelude.{ℕ, ◌≤◌, List, [], length}
use Rattle.desk_core.specs.declared.entry.Entry.{Entry}
use Rattle.httparse.specs.Grammar.{RequestHead, ReadsRequest}
use Rattle.plain.specs.declared.figures.Figures.{Figures}

-- a text, by the names of the catalogue, the history that is seen and what the server counts
abbrev pub PlainText : Type 0
PlainText = List (List ℕ) → List Entry → Figures → List ℕ

-- the bytes are just the head of this request, with 32 header lines at most
abbrev pub IsHeadOf : RequestHead → List ℕ → Type 0
IsHeadOf request bytes = ReadsRequest bytes request [] × (length request.fields ≤ 32)
