-- What ends a command.
use Rattle.server.specs.declared.serve_fault.ServeFault.{ServeFault}
use Rattle.server.specs.declared.serve_fault.ServeFault.TheVariants as served
use Rattle.commands.specs.declared.fault.Fault.{Fault}
use Rattle.commands.specs.declared.fault.Fault.TheVariants.{Crew, SeatsMissing, OutOfMemory}

-- the fault of a server that can't tell how its calls ended
abbrev pub fault_of : ServeFault → Fault
fault_of (served.Crew why) = Crew why
fault_of served.SeatsMissing = SeatsMissing
fault_of served.NoMemory = OutOfMemory
