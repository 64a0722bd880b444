use Rattle.std.proofs.Common.{arith}
use Rattle.script.proofs.LineCuts.{few_lines}
use Rattle.script.proofs.text_lines.Lines.new.Goals as goal

pub invariant_of-result : goal.invariant_of-result
invariant_of-result c = omega (arith, few_lines c.args.text.now)
