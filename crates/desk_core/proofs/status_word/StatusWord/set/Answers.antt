use Rattle.std.proofs.Common.{◌<◌, rules, ap, ◌∙◌, arith}
use Rattle.desk_core.specs.Board.{packed, status_in}
use Rattle.desk_core.specs.Slots.{with_status}
use Rattle.desk_core.proofs.BoardLemmas.{weight_is, replaced, packed_fits}
use Rattle.desk_core.proofs.status_word.StatusWord.set.Goals as goal

pub overflow_mul-self-2 : goal.overflow_mul-self-2
overflow_mul-self-2 c =
    let few : c.args.slot < 16 = omega (arith, c.number.ensures.value, c.number.ensures.range) in
    let small : c.self.inside.word < 4294967296 = search rules in
    rw (weight_is c.number.result c.args.slot c.number.ensures.value few) (omega (arith, (replaced c.self.inside.word c.args.slot c.code.result c.args.status small few c.code.ensures.value).part))

pub overflow_add-self : goal.overflow_add-self
overflow_add-self c =
    let few : c.args.slot < 16 = omega (arith, c.number.ensures.value, c.number.ensures.range) in
    let small : c.self.inside.word < 4294967296 = search rules in
    let whole = replaced c.self.inside.word c.args.slot c.code.result c.args.status small few c.code.ensures.value in
    rw (weight_is c.number.result c.args.slot c.number.ensures.value few) (omega (arith, whole.is, packed_fits (with_status (status_in c.self.inside.word) c.args.slot c.args.status)))

pub returns : goal.returns
returns c =
    let few : c.args.slot < 16 = omega (arith, c.number.ensures.value, c.number.ensures.range) in
    let small : c.self.inside.word < 4294967296 = search rules in
    rw (weight_is c.number.result c.args.slot c.number.ensures.value few) (replaced c.self.inside.word c.args.slot c.code.result c.args.status small few c.code.ensures.value).is
    ∙ ap (λ word. packed (with_status (status_in word) c.args.slot c.args.status) 16) c.self.view_is
