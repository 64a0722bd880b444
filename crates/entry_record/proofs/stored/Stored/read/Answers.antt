use Rattle.std.proofs.Common.{arith}
use Rattle.entry_record.proofs.Readings.{is_found, is_none, is_only}
use Rattle.entry_record.proofs.stored.Stored.read.Goals as goal

pub returns-clause-some : goal.returns-clause-some
returns-clause-some c = is_found c.args.bytes.now c.stored_of.result (λ i. omega (arith, c.type_inv.bytes i)) c.stored_of.ensures

pub returns-clause-none : goal.returns-clause-none
returns-clause-none c = is_none c.args.bytes.now c.stored_of.result c.stored_of.ensures

pub returns-clause-only : goal.returns-clause-only
returns-clause-only c = is_only c.args.bytes.now c.stored_of.result c.stored_of.ensures
