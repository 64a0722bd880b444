-- The rules of the services that a script registers.
use Rattle.std.specs.Prelude.{List, Option, None, Some}
use Rattle.std.specs.List.{filter_map}
use Rattle.probe_core.specs.declared.rule.Rule.{Rule}
use Rattle.script.specs.declared.line.Line.{Line}
use Rattle.script.specs.declared.line.Line.TheVariants.{Register, Retire, Order, Check, Open, Step, Board}

-- the rule by which a line registers a service
abbrev pub rule_in : Line → Option Rule
rule_in (Register name rule) = Some rule
rule_in (Retire name) = None
rule_in (Order order) = None
rule_in (Check name) = None
rule_in (Open name) = None
rule_in (Step number) = None
rule_in Board = None

-- those of the lines that register one, in their order
abbrev pub rules_in : List Line → List Rule
rules_in lines = filter_map rule_in lines
