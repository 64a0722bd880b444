-- What an answer tells of how one service stands.
use Rattle.std.specs.Prelude.{ℕ, ◌≡◌, ◌≢◌, List, [], ◌++◌, codes, Option, Some, None, option_map, string_bytes}
use Rattle.std.specs.Str.Parse.{IsNumeral, digits_value, without_leading_plus}
use Rattle.readout.specs.declared.moment.Moment.{Moment}
use Rattle.readout.specs.declared.moment.Mention.{Mention}
use Rattle.readout.specs.declared.row.Row.{Row}
use Rattle.readout.specs.declared.standing.Standing.{Standing}
use Rattle.readout.specs.declared.status.Status.{Status}
use Rattle.readout.specs.declared.status.Status.TheVariants.{Serving, NotServing, Unknown, Absent}

-- the word of a status
abbrev pub word_of : Status → List ℕ
word_of Serving = codes "serving"
word_of NotServing = codes "not_serving"
word_of Unknown = codes "unknown"
word_of Absent = codes "absent"

-- the name that a word stands for: `-` is the empty one
pub record IsNameOf (word name : List ℕ) : Type 0 where
  pub empty : word ≡ codes "-" → name ≡ []
  pub same : word ≢ codes "-" → name ≡ word

-- a word is a number's digits
pub record IsNumber (word : List ℕ) (n : ℕ) : Type 0 where
  pub digits : IsNumeral 10 (without_leading_plus word)
  pub value : digits_value 10 (without_leading_plus word) ≡ n

-- a word, or `-` for what is not known
abbrev pub word_or_dash : Option (List ℕ) → List ℕ
word_or_dash (Some word) = word
word_or_dash None = codes "-"

-- an entry, and its time where that is known
pub record Mentioned : Type 0 where
  pub entry : ℕ
  pub time : Option (List ℕ)

-- a moment without the memory that it takes
abbrev pub mentioned : Moment → Mentioned
mentioned moment = record { entry = moment.entry; time = option_map string_bytes moment.time }

-- two words are an entry's place and its time, or `-` both
abbrev pub AreWordsOf : List ℕ → List ℕ → Option Mentioned → Type 0
AreWordsOf place time None = (place ≡ codes "-") × (time ≡ codes "-")
AreWordsOf place time (Some told) = IsNumber place told.entry × (time ≡ word_or_dash told.time)

-- a text begins with two such words, and this rest is behind them
pub record BeginsWith (text : List ℕ) (told : Option Mentioned) (rest : List ℕ) : Type 0 where
  pub place : List ℕ
  pub time : List ℕ
  pub parts : text ≡ place ++ codes " " ++ (time ++ codes " " ++ rest)
  pub words : AreWordsOf place time told

-- a word is a number of seconds, or `-`
abbrev pub IsSeconds : List ℕ → Option ℕ → Type 0
IsSeconds word None = word ≡ codes "-"
IsSeconds word (Some seconds) = IsNumber word seconds

-- a status, and why a service has it
abbrev pub reason_text : Status → Option (List ℕ) → List ℕ
reason_text status None = word_of status
reason_text status (Some why) = word_of status ++ (codes ": " ++ why)

-- how a service stands
pub record Told : Type 0 where
  pub since : Option Mentioned
  pub reported : Option Mentioned
  pub expected : Option ℕ
  pub status : Status
  pub why : Option (List ℕ)

-- an answer tells just that, in this order
pub record Tells (answer : List ℕ) (told : Told) : Type 0 where
  pub from_since : List ℕ
  pub from_reported : List ℕ
  pub from_expected : List ℕ
  pub seconds : List ℕ
  pub front : answer ≡ codes "since " ++ from_since
  pub since : BeginsWith from_since told.since (codes "reported " ++ from_reported)
  pub reported : BeginsWith from_reported told.reported (codes "expected " ++ from_expected)
  pub rest : from_expected ≡ seconds ++ codes " " ++ reason_text told.status told.why
  pub expected : IsSeconds seconds told.expected

-- an entry and its time, in the words of an answer
abbrev pub mentioned_in : Mention → Mentioned
mentioned_in mention = record { entry = mention.entry; time = option_map (λ time. time.now) mention.time }

-- what is told in the words of an answer
abbrev pub told_in : Standing → Told
told_in standing = record { since = option_map mentioned_in standing.since; reported = option_map mentioned_in standing.reported; expected = standing.expected; status = standing.reason.status; why = option_map (λ why. why.now) standing.reason.why }

-- what a row tells
abbrev pub told_by : Row → Told
told_by row = record { since = option_map mentioned row.since; reported = option_map mentioned row.reported; expected = row.expected; status = row.status; why = option_map string_bytes row.why }
