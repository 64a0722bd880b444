use Rattle.std.proofs.Common.{◌≤◌, vec_capacity}
use Rattle.commands.specs.Tell.{HasTold}
use Rattle.commands.proofs.tell.tell_lines.Given as goal

abbrev pub invariant-loop : goal.invariant-loop
invariant-loop g l = record {
  room : 65537 ≤ vec_capacity l.line;
  told : HasTold (g.R.Read.remaining l.initial.reader) (g.R.Read.remaining l.reader) (g.O.Write.contents l.initial.output) (g.O.Write.contents l.output) l.status;
}
