-- The words that a message has for what is wrong with the names of a catalogue.
use Rattle.std.specs.Prelude.{ℕ, nat_lt, if◌then◌else◌, List, [], ◌∷◌, ◌++◌, length, codes, decimal, Option, None, Some}
use Rattle.std.specs.List.{list_any}
use Rattle.std.specs.Option.{option_map}
use Rattle.std.specs.Str.{bytes_eq}
use Rattle.desk_core.specs.declared.catalogue.CatalogueFault.{CatalogueFault}
use Rattle.desk_core.specs.declared.catalogue.CatalogueFault.TheVariants as faults
use Rattle.script.specs.declared.catalogue_complaint.CatalogueComplaint.{CatalogueComplaint}
use Rattle.script.specs.declared.catalogue_complaint.CatalogueComplaint.TheVariants.{NoNames, TooMany, TooLong, TwiceListed, NoEmptyName}
use Rattle.script.specs.Quoted.{quoted}

-- what a complaint says
abbrev pub complaint_text : CatalogueComplaint → List ℕ
complaint_text NoNames = codes "no names"
complaint_text (TooMany count) = decimal count ++ codes " names, 16 are allowed"
complaint_text (TooLong word) = quoted word.now ++ codes " has more than 128 bytes"
complaint_text (TwiceListed word) = quoted word.now ++ codes " is listed twice"
complaint_text NoEmptyName = codes "no empty name, expected - among the names"

-- the first word of more than 128 bytes
abbrev pub first_long : List (List ℕ) → Option (List ℕ)
first_long [] = None
first_long (word ∷ others) = if nat_lt 128 (length word) then Some word else first_long others

-- the first word that stands again behind its place
abbrev pub first_double : List (List ℕ) → Option (List ℕ)
first_double [] = None
first_double (word ∷ others) = if list_any (λ other. bytes_eq other word) others then Some word else first_double others

-- what is said of names that have this fault, where these words stand for them; none where the fault is of a word and no word has it
abbrev pub text_in : List (List ℕ) → CatalogueFault → Option (List ℕ)
text_in words faults.NoNames = Some (codes "no names")
text_in words faults.TooMany = Some (decimal (length words) ++ codes " names, 16 are allowed")
text_in words faults.TooLong = option_map (λ word. quoted word ++ codes " has more than 128 bytes") (first_long words)
text_in words faults.TwiceListed = option_map (λ word. quoted word ++ codes " is listed twice") (first_double words)
text_in words faults.NoEmptyName = Some (codes "no empty name, expected - among the names")
text_in words faults.NoMemory = None
