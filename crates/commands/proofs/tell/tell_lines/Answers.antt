use Rattle.std.proofs.Common.{arith, subst, sym}
use Rattle.commands.specs.Tell.{HasTold}
use Rattle.commands.proofs.TellLemmas.{told_then}
use Rattle.commands.proofs.tell.tell_lines.Goals as goal

pub loop-preserved : goal.loop-preserved
loop-preserved g c = record {
  room = omega (arith, c.loop.invariant.room, c.clear.ensures.capacity, c.read_line.ensures.capacity);
  told = subst
      (HasTold (g.R.Read.remaining c.args.reader.now) (g.R.Read.remaining c.tell_line.new.reader) (g.O.Write.contents c.args.output.now) (g.O.Write.contents c.tell_line.new.output))
      (sym c.max-status.ensures) (told_then _ _ _ _ _ _ _ _ c.loop.invariant.told c.in_ok-tell_line.ensures.told);
}
