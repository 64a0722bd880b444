use Rattle.std.proofs.Common.{take}
use Rattle.script.proofs.RuleLemmas.{AreMade}
use Rattle.script.proofs.probes.probes_for.Given as goal

abbrev pub invariant-loop-line : goal.invariant-loop-line
invariant-loop-line g l = AreMade g.P.Probe.rule g.P.Probe.memory (take l.line-index l.fn.lines) l.probes.items
