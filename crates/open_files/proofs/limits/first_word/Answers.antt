use Rattle.std.proofs.Common.{arith, ◌≡◌, ◌-◌, ◌∙◌, sym, length, take, drop}
use Rattle.std.proofs.lemmas.Grind.{common_steps}
use Rattle.open_files.proofs.WordLemmas.{no_start, no_end, word_is}
use Rattle.open_files.proofs.limits.first_word.Goals as goal

pub returns-in_err-text-clause-none : goal.returns-in_err-text-clause-none
returns-in_err-text-clause-none c =
    rw c.from_residual.ensures (no_start c.args.text.now (sym c.first_other.ensures.place ∙ c.in_err-text.was))

pub returns-in_err-first_space-clause-none : goal.returns-in_err-first_space-clause-none
returns-in_err-first_space-clause-none c =
    let text = c.args.text.now in
    let start = c.in_ok-text.field-0 in
    let rest : take (length text - start) (drop start text) ≡ drop start text = grind (arith, common_steps) in
    let space = rw rest at (sym c.first_space.ensures.place ∙ c.in_err-first_space.was) in
    rw c.from_residual-in_err-first_space.ensures (no_end text start (sym c.first_other.ensures.place ∙ c.in_ok-text.was) space)

pub returns-clause-some : goal.returns-clause-some
returns-clause-some c =
    let text = c.args.text.now in
    let start = c.in_ok-text.field-0 in
    let rest : take (length text - start) (drop start text) ≡ drop start text = grind (arith, common_steps) in
    let space = rw rest at (sym c.first_space.ensures.place ∙ c.in_ok-first_space.was) in
    rw rest (word_is text start c.in_ok-first_space.field-0 (sym c.first_other.ensures.place ∙ c.in_ok-text.was) space)
