-- Words of a line that stand for a name or a number.
use Rattle.std.specs.Prelude.{ℕ, ◌≡◌, ◌^◌, ◌<◌, ◌≤◌, IsTrue, if◌then◌else◌, List, [], length, codes}
use Rattle.std.specs.Char.{is_ascii_digit}
use Rattle.std.specs.List.{list_all}
use Rattle.std.specs.Str.{bytes_eq}
use Rattle.std.specs.Str.Parse.{digits_value}

-- the name that a word stands for: `-` is the empty name, and any other word is the name as it is
abbrev pub name_of : List ℕ → List ℕ
name_of word = if bytes_eq word (codes "-") then [] else word

-- the word is a number: one to ten ASCII digits, with a value below 2 ^ 32
pub record IsNumber (word : List ℕ) (value : ℕ) : Type 0 where
  pub least : 1 ≤ length word
  pub most : length word ≤ 10
  pub digits : IsTrue (list_all is_ascii_digit word)
  pub value_is : value ≡ digits_value 10 word
  pub fits : value < 2 ^ 32
