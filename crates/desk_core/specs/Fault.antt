-- Why names make no catalogue.
use Rattle.std.specs.Prelude.{ℕ, ◌==◌, nat_lt, if◌then◌else◌, List, length, codes, Option, Some, None}
use Rattle.desk_core.specs.declared.catalogue.CatalogueFault.{CatalogueFault}
use Rattle.desk_core.specs.declared.catalogue.CatalogueFault.TheVariants.{NoNames, TooMany, TooLong, TwiceListed, NoEmptyName, NoMemory}
use Rattle.desk_core.specs.Catalogue.{has_too_long, has_double, has_empty_name}

-- the first fault that the names have, in the order of their numbers
abbrev pub fault_in : List (List ℕ) → Option CatalogueFault
fault_in names =
    if length names == 0 then Some NoNames
    else (if nat_lt 16 (length names) then Some TooMany
    else (if has_too_long names then Some TooLong
    else (if has_double names then Some TwiceListed
    else (if has_empty_name names then None
    else Some NoEmptyName))))

-- the number of a fault
abbrev pub fault_number : CatalogueFault → ℕ
fault_number NoNames = 1
fault_number TooMany = 2
fault_number TooLong = 3
fault_number TwiceListed = 4
fault_number NoEmptyName = 5
fault_number NoMemory = 6

-- the text of a fault
abbrev pub text_of : CatalogueFault → List ℕ
text_of NoNames = codes "the catalogue has no names"
text_of TooMany = codes "the catalogue has more than 16 names"
text_of TooLong = codes "a name is longer than 128 bytes"
text_of TwiceListed = codes "a name is listed twice"
text_of NoEmptyName = codes "the empty name is missing"
text_of NoMemory = codes "out of memory"
