-- What ends the command `ask`.
use Rattle.commands.specs.declared.ask_failure.AskFailure.{AskFailure}
use Rattle.commands.specs.declared.ask_failure.AskFailure.TheVariants as failures
use Rattle.commands.specs.declared.fault.Fault.{Fault}
use Rattle.commands.specs.declared.fault.Fault.TheVariants.{Connect, TimedOut}

-- a failure without its cause
abbrev pub plain_of : AskFailure → Fault
plain_of (failures.Plain fault) = fault
plain_of (failures.Connect addr cause) = Connect
plain_of (failures.TimedOut seconds) = TimedOut
