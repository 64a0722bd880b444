-- The words that a message has for what is wrong with a line of a script to run.
use Rattle.std.specs.Prelude.{ℕ, ◌≡◌, List, ◌++◌, codes, Contains, None}
use Rattle.desk_core.specs.Catalogue.{slot_of}
use Rattle.script.specs.declared.complaint.Complaint.{Complaint}
use Rattle.script.specs.declared.complaint.Complaint.TheVariants.{NeedsCatalogue, EmptyWord, UnknownLine, OfOtherScripts, NeedsRule, UnknownRule, NeedsCounts, NeedsNames, NotListed, NoNumber, NeedsName, StandsAlone, NeedsMax, MaxTooLate, NeedsSeconds}
use Rattle.script.specs.Quoted.{quoted}
use Rattle.script.specs.TextLines.{AreWords}
use Rattle.script.specs.Word.{name_of, IsNumber}

-- what a complaint says
abbrev pub complaint_text : Complaint → List ℕ
complaint_text NeedsCatalogue = codes "expected catalogue and the names"
complaint_text EmptyWord = codes "an empty word, expected one space between words"
complaint_text UnknownLine = codes "no such line, expected register, retire, pass, fail, up, down, shutdown, resume or expect"
complaint_text OfOtherScripts = codes "not in a script to run"
complaint_text NeedsRule = codes "expected register NAME and then threshold, manual or depends"
complaint_text UnknownRule = codes "no such rule, expected threshold, manual or depends"
complaint_text NeedsCounts = codes "expected threshold F, threshold F R or threshold F R unknown"
complaint_text NeedsNames = codes "expected depends and names of the catalogue"
complaint_text (NotListed word) = quoted word.now ++ codes " is not in the catalogue"
complaint_text (NoNumber word) = quoted word.now ++ codes " is no number from 0 to 4294967295"
complaint_text (NeedsName word) = codes "expected " ++ word.now ++ codes " NAME"
complaint_text (StandsAlone word) = codes "expected " ++ word.now ++ codes " alone"
complaint_text NeedsMax = codes "expected max N"
complaint_text MaxTooLate = codes "expected max right after the catalogue"
complaint_text NeedsSeconds = codes "expected expect NAME SECONDS, 86400 seconds at most"

-- a complaint that names a word names one of these, and one that says of it that it is not listed, or no number, is right
abbrev pub IsSo : List (List ℕ) → List (List ℕ) → Complaint → Type 0
IsSo names words NeedsCatalogue = Unit {0}
IsSo names words EmptyWord = Unit {0}
IsSo names words UnknownLine = Unit {0}
IsSo names words OfOtherScripts = Unit {0}
IsSo names words NeedsRule = Unit {0}
IsSo names words UnknownRule = Unit {0}
IsSo names words NeedsCounts = Unit {0}
IsSo names words NeedsNames = Unit {0}
IsSo names words (NotListed word) = Contains words word.now × (slot_of names (name_of word.now) ≡ None)
IsSo names words (NoNumber word) = Contains words word.now × ((value : ℕ) → ¬ IsNumber word.now value)
IsSo names words (NeedsName word) = Contains words word.now
IsSo names words (StandsAlone word) = Contains words word.now
IsSo names words NeedsMax = Unit {0}
IsSo names words MaxTooLate = Unit {0}
IsSo names words NeedsSeconds = Unit {0}

-- the same of a line's text. An empty word is a complaint about a text that has no words
pub data IsSoOf (names : List (List ℕ)) (text : List ℕ) : Complaint → Type 0 where
  WithoutWords : ((words : List (List ℕ)) → ¬ AreWords text words) → IsSoOf names text EmptyWord
  WithWords : (words : List (List ℕ)) (complaint : Complaint) → AreWords text words → IsSo names words complaint → IsSoOf names text complaint
