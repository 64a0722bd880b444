use Rattle.std.proofs.Common.{sym, ap, ◌∙◌, arith}
use Rattle.std.specs.Prelude.{Some}
use Rattle.std.specs.Str.{bytes_eq}
use Rattle.plain.proofs.NameLemmas.{found, not_found, one_further}
use Rattle.plain.proofs.escapes.slot_named.Goals as goal

pub returns-then-eq : goal.returns-then-eq
returns-then-eq c =
    let same = rw c.unwrap-slot.ensures at c.new.ensures.value in
    let listed = sym (rw (c.unwrap-listed.ensures, same) at c.name.ensures.value) in
    let tested = ap (bytes_eq c.args.name.now) (sym c.as_bytes.ensures.value) ∙ (sym c.eq.ensures ∙ c.if-eq.true) in
    ap Some same ∙ sym (found c.args.name.now c.args.catalogue.now c.loop-number.number c.unwrap-listed.result.now c.loop-number.invariant listed tested)

pub loop-number-preserved : goal.loop-number-preserved
loop-number-preserved c =
    let same = rw c.unwrap-slot.ensures at c.new.ensures.value in
    let listed = sym (rw (c.unwrap-listed.ensures, same) at c.name.ensures.value) in
    let tested = ap (bytes_eq c.args.name.now) (sym c.as_bytes.ensures.value) ∙ (sym c.eq.ensures ∙ c.if-eq.false) in
    one_further c.args.name.now c.args.catalogue.now c.loop-number.number c.unwrap-listed.result.now c.loop-number.invariant listed tested

pub returns : goal.returns
returns c =
    sym (not_found c.args.name.now c.args.catalogue.now c.loop-number.number c.loop-number.invariant
    (omega (arith, c.loop-number-test.false, c.len-number-end.ensures.value)))
