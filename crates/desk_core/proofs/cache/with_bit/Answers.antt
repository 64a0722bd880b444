use Rattle.std.proofs.Common.{◌≡◌, ◌<◌, true, false, arith, rules}
use Rattle.desk_core.proofs.CacheLemmas.{slot_in, slot_out}
use Rattle.desk_core.proofs.cache.with_bit.Goals as goal

pub returns-then-is_in : goal.returns-then-is_in
returns-then-is_in c =
    let few : c.args.slot < 16 = omega (arith, c.number.ensures.value, c.number.ensures.range) in
    let is : c.args.is_in ≡ true = search rules in
    slot_in c.args.mask c.number.result c.args.slot c.args.is_in c.number.ensures.value few is

pub returns-else-is_in : goal.returns-else-is_in
returns-else-is_in c =
    let few : c.args.slot < 16 = omega (arith, c.number.ensures.value, c.number.ensures.range) in
    let is : c.args.is_in ≡ false = search rules in
    slot_out c.args.mask c.number.result c.args.slot c.args.is_in c.number.ensures.value few is
