-- What the sessions of a place may ask for.
use Rattle.desk_core.specs.declared.order.Order.{Order as OrderOf}
use Rattle.desk_core.specs.declared.order.Order.TheVariants.{Observe, Set, Shutdown, Resume}
use Rattle.script.specs.declared.line.Line.{Line}
use Rattle.script.specs.declared.line.Line.TheVariants.{Register, Retire, Order, Check, Open, Step, Board}
use Rattle.control.specs.declared.answer.Answer.{Answer}
use Rattle.control.specs.declared.answer.Answer.TheVariants as answers
use Rattle.control.specs.declared.request.Request.{Request}
use Rattle.control.specs.declared.request.Request.TheVariants as requests
use Rattle.control.specs.declared.rights.Rights.{Rights}
use Rattle.control.specs.declared.rights.Rights.TheVariants.{All, Reports}

-- the order tells what was found
abbrev pub IsFinding : OrderOf → Type 0
IsFinding (Observe name finding) = Unit {0}
IsFinding (Set name setting) = ⊥
IsFinding Shutdown = ⊥
IsFinding Resume = ⊥

-- the line reports a finding, or asks for a status or the board
abbrev pub IsReport : Line → Type 0
IsReport (Register name rule) = ⊥
IsReport (Retire name) = ⊥
IsReport (Order order) = IsFinding order
IsReport (Check name) = Unit {0}
IsReport (Open name) = ⊥
IsReport (Step k) = ⊥
IsReport Board = Unit {0}

-- the request may be made by whoever has these rights: who reports may tell findings, and ask, and do nothing else
abbrev pub IsAllowed : Rights → Request → Type 0
IsAllowed All request = Unit {0}
IsAllowed Reports (requests.Line line) = IsReport line
IsAllowed Reports (requests.Expect expectation) = ⊥
IsAllowed Reports (requests.Ask question) = Unit {0}
IsAllowed Reports requests.List = Unit {0}
IsAllowed Reports requests.Stats = Unit {0}
IsAllowed Reports requests.Stop = ⊥

-- how a line that is no request is answered: who may do nothing but report is told that of any other line
abbrev pub unknown_line : Rights → Answer
unknown_line All = answers.BadLine
unknown_line Reports = answers.NotAllowed
