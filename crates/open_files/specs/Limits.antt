-- The soft limit of open files in a text of /proc/self/limits. proc(5) names the limits and their three columns; Linux prints a
-- line a limit, its name and its columns each padded with spaces and parted by one (fs/proc/base.c, proc_pid_limits).
use Rattle.std.specs.Prelude.{ℕ, ◌≡◌, ◌≢◌, ◌^◌, ◌<◌, ◌==◌, nat_eq, List, ◌∷◌, ◌++◌, length, Some, All, codes, find, replicate}
use Rattle.std.specs.List.{slice_split, starts_with}
use Rattle.std.specs.Str.Parse.{IsNumeral, digits_value}
use Rattle.open_files.specs.declared.limits.OpenFiles.{OpenFiles}
use Rattle.open_files.specs.declared.limits.OpenFiles.TheVariants.{AtMost, Unlimited}

-- the word is a decimal number below 2 ^ 64
pub record IsNumber (word : List ℕ) (value : ℕ) : Type 0 where
  pub digits : IsNumeral 10 word
  pub value_is : value ≡ digits_value 10 word
  pub fits : value < 2 ^ 64

-- the word says this limit
abbrev pub IsLimit : List ℕ → OpenFiles → Type 0
IsLimit word (AtMost count) = IsNumber word count
IsLimit word Unlimited = word ≡ codes "unlimited"

-- the name of the limit, with the first of the spaces behind it
abbrev pub name : List ℕ
name = codes "Max open files "

-- the first word of a text, behind spaces, and with a space behind it, without which it may be cut
pub record IsFirstWord (text word : List ℕ) : Type 0 where
  pub spaces : ℕ
  pub others : List ℕ
  pub parts : text ≡ replicate spaces 32 ++ (word ++ 32 ∷ others)
  pub plain : All (λ byte. byte ≢ 32) word
  pub some : 0 < length word

-- the line has its name, and behind it this soft limit
pub record IsOpenFilesLine (line : List ℕ) (limit : OpenFiles) : Type 0 where
  pub columns : List ℕ
  pub word : List ℕ
  pub parts : line ≡ name ++ columns
  pub first : IsFirstWord columns word
  pub is : IsLimit word limit

-- the first line of that name says this soft limit
pub record IsOpenFilesIn (text : List ℕ) (limit : OpenFiles) : Type 0 where
  pub line : List ℕ
  pub first : find (λ line. starts_with nat_eq line name) (slice_split (λ byte. byte == 10) text) ≡ Some line
  pub is : IsOpenFilesLine line limit
