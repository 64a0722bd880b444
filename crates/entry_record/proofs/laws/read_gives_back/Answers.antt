use Rattle.std.proofs.Common.{◌∙◌}
use Rattle.entry_record.proofs.Readings.{one_value}
use Rattle.entry_record.proofs.laws.read_gives_back.Goals as goal

pub returns-clause-back : goal.returns-clause-back
returns-clause-back c = c.read.ensures.only c.args.stored.now c.write.ensures.fits (c.as_bytes.ensures.bytes ∙ c.write.ensures.bytes)

pub returns-clause-one : goal.returns-clause-one
returns-clause-one c = one_value
