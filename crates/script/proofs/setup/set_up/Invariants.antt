use Rattle.std.proofs.Common.{◌≡◌, ◌≤◌, map, drop, length, vec_len, vec_capacity}
use Rattle.std.specs.Vec.Iter.{into_iter_items}
use Rattle.script.specs.Change.{line_changes}
use Rattle.script.proofs.SetupLemmas.{IsSettingUp}
use Rattle.script.proofs.setup.set_up.Given as goal

abbrev pub invariant-loop-line : goal.invariant-loop-line
invariant-loop-line g l =
    IsSettingUp g.D.Registrar.answers (g.D.Registrar.names l.fn.registrar) l.fn.registrar (line_changes (g.D.Registrar.names l.fn.registrar) l.fn.lines) l.registrar
    (drop l.line-index l.fn.lines) (map g.P.Probe.rule (into_iter_items l.probes)) l.results.items
    × (g.D.Registrar.names l.registrar ≡ g.D.Registrar.names l.fn.registrar)
    × (vec_len l.results ≤ l.line-index) × (length l.fn.lines ≤ vec_capacity l.results)
