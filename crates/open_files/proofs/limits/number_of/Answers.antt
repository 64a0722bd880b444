use Rattle.std.proofs.Common.{rules, ◌≡◌, true, false}
use Rattle.std.specs.Char.{is_ascii_digit}
use Rattle.std.specs.List.{list_all}
use Rattle.open_files.proofs.NumberLemmas.{other_is_no_number, digits_utf8}
use Rattle.open_files.proofs.limits.number_of.Goals as goal

pub returns-then-not-has_only_digits-clause-none : goal.returns-then-not-has_only_digits-clause-none
returns-then-not-has_only_digits-clause-none c =
    let other : list_all is_ascii_digit c.args.word.now ≡ false = search rules in
    other_is_no_number c.args.word.now other

pub returns-in_default-clause-none : goal.returns-in_default-clause-none
returns-in_default-clause-none c =
    let digits : list_all is_ascii_digit c.args.word.now ≡ true = search rules in
    absurd (c.in_default.ensures.cases.0 (digits_utf8 c.args.word.now digits))
