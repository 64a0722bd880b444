-- Whether the server is shut down, as gRPC's servers have it: every service is then not serving until a resume.
use Rattle.std.specs.Prelude.{Bool, true, false, Option, None, Some, unwrap_or, List}
use Rattle.desk_core.specs.declared.call.Call.{Call}
use Rattle.desk_core.specs.declared.call.Call.TheVariants.{Register, Retire, Observe, Set, Shutdown, Resume}
use Rattle.desk_core.specs.declared.entry.Entry.{Entry}
use Rattle.desk_core.specs.Past.{last_said}

-- what a call says of it
abbrev pub says_shut : Call → Option Bool
says_shut (Register slot rule) = None
says_shut (Retire slot) = None
says_shut (Observe slot finding) = None
says_shut (Set slot setting) = None
says_shut Shutdown = Some true
says_shut Resume = Some false

-- the last Shutdown or Resume is a Shutdown
abbrev pub is_shut : List Entry → Bool
is_shut entries = unwrap_or (last_said says_shut entries) false
