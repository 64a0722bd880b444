-- A session, as whoever holds it sees it.
use Rattle.std.specs.Prelude.{ℕ, ◌≡◌, ◌≤◌, ◌⊎◌, ◌==◌, ◌&&◌, not, nat_lt, codes, Bool, true, false, if◌then◌else◌, List, [], ◌∷◌, ◌++◌, length, Contains}

-- the bytes that were given and not read, those of its answers that wait to be sent, whether its last line was answered (one that is too
-- long or none of a session, or `stop`), and whether it was told that no more bytes come
pub record SessionState : Type 0 where
  pub unread : List ℕ
  pub waiting : List ℕ
  pub is_over : Bool
  pub has_ended : Bool

-- a session that was given nothing
abbrev pub begun : SessionState
begun = record { unread = []; waiting = []; is_over = false; has_ended = false }

abbrev pub with_unread : List ℕ → SessionState → SessionState
with_unread bytes session = record { unread = bytes; waiting = session.waiting; is_over = session.is_over; has_ended = session.has_ended }

abbrev pub with_waiting : List ℕ → SessionState → SessionState
with_waiting bytes session = record { unread = session.unread; waiting = bytes; is_over = session.is_over; has_ended = session.has_ended }

-- the bytes before the first LF, or all of them
abbrev pub first_line : List ℕ → List ℕ
first_line [] = []
first_line (c ∷ rest) = if c == 10 then [] else c ∷ first_line rest

-- the bytes behind the first LF
abbrev pub behind_line : List ℕ → List ℕ
behind_line [] = []
behind_line (c ∷ rest) = if c == 10 then rest else behind_line rest

-- bytes stand behind the last LF
abbrev pub ends_open : List ℕ → Bool
ends_open [] = false
ends_open (c ∷ []) = not (c == 10)
ends_open (c ∷ d ∷ rest) = ends_open (d ∷ rest)

-- the same bytes with LF behind a last line that stands without it, unless all of them are one line that is too long
abbrev pub ended : List ℕ → List ℕ
ended bytes = if ends_open bytes && nat_lt (length (first_line bytes)) 1025 then bytes ++ codes "\n" else bytes

-- 1,025 bytes of several lines, and the LF that closes the last of them
pub record IsClosed (bytes : List ℕ) : Type 0 where
  pub size : length bytes ≡ 1026
  pub first : length (first_line bytes) ≤ 1024
  pub closed : ends_open bytes ≡ false

-- no more bytes than a session is given, or these and the LF that closes the last line
abbrev pub IsWithin : List ℕ → Type 0
IsWithin bytes = (length bytes ≤ 1025) ⊎ IsClosed bytes

-- a session to which no more bytes come
abbrev pub at_end : SessionState → SessionState
at_end session = record { unread = ended session.unread; waiting = session.waiting; is_over = session.is_over; has_ended = true }

-- there is a line to answer: one that ends in LF, or one that is too long
abbrev pub HasLine : SessionState → Type 0
HasLine session = (session.is_over ≡ false) × (Contains session.unread 10 ⊎ (1025 ≤ length session.unread))
