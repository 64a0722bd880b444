use Rattle.std.proofs.Common.{rules, ◌≡◌, true, ◌≤◌, length}
use Rattle.std.specs.Char.{is_ascii_digit}
use Rattle.std.specs.List.{list_all}
use Rattle.script.proofs.NumberLemmas.{parsed}
use Rattle.script.proofs.number.number_of.Goals as goal

pub returns : goal.returns
returns c =
    let digits : list_all is_ascii_digit c.args.word.now ≡ true = search rules in
    let most : length c.args.word.now ≤ 10 = search rules in
    rw c.ok.ensures.value (parsed c.args.word.now c.parse.result digits most c.parse.ensures.value.0)
