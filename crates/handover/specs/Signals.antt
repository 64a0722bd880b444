-- Signals of a process in a text of /proc/self/status. proc(5) names its lines; Linux prints a name, a colon, a tab and 16 hexadecimal
-- digits (fs/proc/array.c, render_sigset_t).
use Rattle.std.specs.Prelude.{ℕ, ◌≡◌, ◌≢◌, ◌⊎◌, ◌+◌, ◌^◌, ◌<◌, ◌==◌, nat_eq, List, ◌∷◌, [], ◌++◌, Some, bit_and, codes, find}
use Rattle.std.specs.List.{slice_split, starts_with}
use Rattle.std.specs.Str.Parse.{IsNumeral, digits_value}

-- SIGINT is signal 2 and SIGTERM is signal 15 (signal(7)); signal n is bit n - 1
abbrev pub stop_signals : ℕ
stop_signals = 2 ^ 1 + 2 ^ 14

-- the names of the lines, each with the tab after it
abbrev pub blocked : List ℕ
blocked = codes "SigBlk:" ++ 9 ∷ []

abbrev pub shared_pending : List ℕ
shared_pending = codes "ShdPnd:" ++ 9 ∷ []

abbrev pub pending : List ℕ
pending = codes "SigPnd:" ++ 9 ∷ []

-- the word is a hexadecimal number below 2 ^ 64
pub record IsMask (word : List ℕ) (mask : ℕ) : Type 0 where
  pub digits : IsNumeral 16 word
  pub value_is : mask ≡ digits_value 16 word
  pub fits : mask < 2 ^ 64

-- the line has its name, and after it this mask
pub record IsMaskLine (name line : List ℕ) (mask : ℕ) : Type 0 where
  pub word : List ℕ
  pub parts : line ≡ name ++ word
  pub is : IsMask word mask

-- the first line of that name has this mask
pub record IsMaskIn (text name : List ℕ) (mask : ℕ) : Type 0 where
  pub line : List ℕ
  pub first : find (λ line. starts_with nat_eq line name) (slice_split (λ byte. byte == 10) text) ≡ Some line
  pub is : IsMaskLine name line mask

-- the line of that name has one of these signals
pub record IsAmong (signals : ℕ) (text name : List ℕ) : Type 0 where
  pub mask : ℕ
  pub is : IsMaskIn text name mask
  pub common : bit_and mask signals ≢ 0

-- one of these signals is pending, for the whole process or for its first thread
abbrev pub ArePending : ℕ → List ℕ → Type 0
ArePending signals text = IsAmong signals text shared_pending ⊎ IsAmong signals text pending
