-- What a printer of statuses has come to.
use Rattle.std.specs.Prelude.{Option}
use Rattle.commands.specs.declared.fault.Fault.{Fault}
use Rattle.commands.specs.declared.status_printer.StatusPrinter.{StatusPrinter}

-- why it printed no more, if so
abbrev pub fault_in : {O : Type 0} → StatusPrinter O → Option Fault
fault_in printer = printer.fault
