use Rattle.std.proofs.Common.{◌-◌, arith, length}
use Rattle.control.proofs.LineLemmas.{last_tells}
use Rattle.control.proofs.session.ends_open.Goals as goal

pub returns-in-len1-up : goal.returns-in-len1-up
returns-in-len1-up c = last_tells c.args.bytes.now (length c.args.bytes.now - 1) (omega (arith, c.in-len1-up.len_at_least))
