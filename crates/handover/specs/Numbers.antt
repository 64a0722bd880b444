-- Numbers in the environment of a process.
use Rattle.std.specs.Prelude.{ℕ, ◌≡◌, ◌≢◌, ◌^◌, ◌<◌, List, slice_index}
use Rattle.std.specs.Str.Parse.{IsNumeral, digits_value}

-- The text is a decimal number below 2 ^ 32, the first digit of which is not 0: sd_listen_fds(3) reads what begins with 0 in another base
pub record IsNumber (text : List ℕ) (value : ℕ) : Type 0 where
  pub digits : IsNumeral 10 text
  pub first : slice_index text 0 ≢ 48
  pub value_is : value ≡ digits_value 10 text
  pub fits : value < 2 ^ 32
