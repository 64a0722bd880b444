-- The changes of a registry that the lines of a script ask for.
use Rattle.std.specs.Prelude.{ℕ, Option, None, Some, List}
use Rattle.std.specs.List.{filter_map}
use Rattle.desk_core.specs.declared.call.Call.{Call}
use Rattle.desk_core.specs.declared.call.Call.TheVariants as calls
use Rattle.desk_core.specs.Order.{call_at, ordered}
use Rattle.script.specs.declared.line.Line.{Line}
use Rattle.script.specs.declared.line.Line.TheVariants.{Register, Retire, Order, Check, Open, Step, Board}

-- the change that a line asks for over a catalogue of these names, if it asks for one; the change is none where its name is not listed
abbrev pub line_change : List (List ℕ) → Line → Option (Option Call)
line_change names (Register name rule) = Some (call_at names (λ slot. calls.Register slot rule) name)
line_change names (Retire name) = Some (call_at names (λ slot. calls.Retire slot) name)
line_change names (Order order) = Some (ordered names order)
line_change names (Check name) = None
line_change names (Open name) = None
line_change names (Step number) = None
line_change names Board = None

-- the changes that lines ask for, in their order
abbrev pub line_changes : List (List ℕ) → List Line → List (Option Call)
line_changes names lines = filter_map (line_change names) lines
