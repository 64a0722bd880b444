-- What a server has done when it ends.
use Rattle.std.proofs.Common.{◌≡◌, ◌≢◌}
use Rattle.crew.specs.declared.crew_why.CrewWhy.{CrewWhy}
use Rattle.crew.specs.declared.crew_why.CrewWhy.TheVariants as whys
use Rattle.server.specs.declared.serve_fault.ServeFault.{ServeFault}
use Rattle.server.specs.declared.serve_fault.ServeFault.TheVariants.{SeatsMissing}
use Rattle.server.specs.CrewServer.{fault_of}

-- a crew without a report is no want of seats
pub not_missing : (why : CrewWhy) (fault : ServeFault) → fault ≡ fault_of why → fault ≢ SeatsMissing
not_missing whys.NoWorkers fault is missing = cc
not_missing whys.NoSeats fault is missing = cc
not_missing whys.Stranger fault is missing = cc
not_missing whys.Doubled fault is missing = cc
not_missing whys.Lost fault is missing = cc
not_missing whys.NoMemory fault is missing = cc
