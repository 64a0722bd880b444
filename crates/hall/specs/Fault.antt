-- Why there is no hall.
use Rattle.std.specs.Prelude.{ℕ, ◌==◌, nat_lt, if◌then◌else◌, Option, Some, None, List, codes}
use Rattle.hall.specs.declared.fault.HallFault.{HallFault}
use Rattle.hall.specs.declared.fault.HallFault.TheVariants.{NoSeats, TooManySeats, NoMemory}

-- the fault of a number of seats, if it has one
abbrev pub hall_fault : ℕ → Option HallFault
hall_fault seats = if seats == 0 then Some NoSeats else (if nat_lt 1024 seats then Some TooManySeats else None)

-- the text of a fault
abbrev pub hall_fault_text : HallFault → List ℕ
hall_fault_text NoSeats = codes "a hall needs a seat"
hall_fault_text TooManySeats = codes "a hall has at most 1024 seats"
hall_fault_text NoMemory = codes "out of memory"
