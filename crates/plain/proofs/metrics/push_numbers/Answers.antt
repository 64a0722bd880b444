use Rattle.std.proofs.Common.{sym, arith}
use Rattle.plain.specs.Metrics.{number_sample}
use Rattle.plain.proofs.SlotLemmas.{all_pushed, is_named, pushed}
use Rattle.plain.proofs.metrics.push_numbers.Goals as goal

pub loop-number-preserved : goal.loop-number-preserved
loop-number-preserved c =
    let same = rw c.unwrap-slot.ensures at c.new.ensures.value in
    pushed (number_sample c.args.before.now c.args.numbers.now) c.loop-number.number c.args.catalogue.now _ c.loop-number.text.items
    c.push_number.new.text.items c.unwrap-name.result.now c.loop-number.invariant
    (sym (rw (c.unwrap-name.ensures, same) at c.name.ensures.value))
    (rw same at c.in_ok-push_number.ensures)

pub unwrap-slot-requires : goal.unwrap-slot-requires
unwrap-slot-requires c = c.new.ensures.some.1 (omega (arith, c.loop-number-test.true, c.len-number-end.ensures.range.1))

pub unwrap-name-requires : goal.unwrap-name-requires
unwrap-name-requires c =
    let same = rw c.unwrap-slot.ensures at c.new.ensures.value in
    is_named c.args.catalogue.now c.len-number-end.result c.loop-number.number _ c.name.result c.name.ensures.value same c.loop-number-test.true c.len-number-end.ensures.value

pub returns : goal.returns
returns c =
    all_pushed (number_sample c.args.before.now c.args.numbers.now) c.loop-number.number c.args.catalogue.now _ c.loop-number.text.items c.loop-number.invariant
    (omega (arith, c.loop-number-test.false, c.len-number-end.ensures.value))
