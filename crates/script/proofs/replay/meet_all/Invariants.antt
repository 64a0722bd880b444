use Rattle.std.proofs.Common.{map, drop}
use Rattle.std.specs.String.{string_bytes}
use Rattle.std.specs.Vec.Iter.{into_iter_items}
use Rattle.script.proofs.ReplayLemmas.{IsRunning}
use Rattle.script.proofs.replay.meet_all.Given as goal

abbrev pub invariant-loop-line : goal.invariant-loop-line
invariant-loop-line g l = IsRunning l.fn.run l.fn.lines l.run (drop l.line-index l.fn.lines) (map g.P.Probe.rule (into_iter_items l.probes)) (string_bytes l.output)
