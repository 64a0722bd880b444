use Rattle.std.proofs.Common.{Contains, sym, ◌∙◌}
use borrow.Author.Count.{below_more}
use Rattle.std.proofs.lemmas.Bool.{iff_false}
use Rattle.crew.specs.Gather.{numbers_of}
use Rattle.crew.proofs.Reports.{found_number}
use Rattle.crew.proofs.gathering.has_all_below.Goals as goal

pub returns-then-not-has_number : goal.returns-then-not-has_number
returns-then-not-has_number c =
    (c.loop-number.number, c.loop-number-test.true, iff_false (found_number c.args.found.now c.loop-number.number) (sym c.has_number.ensures ∙ c.if-not-has_number.true))

pub loop-number-preserved : goal.loop-number-preserved
loop-number-preserved c =
    below_more (Contains (numbers_of c.args.found.now)) c.loop-number.number c.loop-number.invariant
    ((found_number c.args.found.now c.loop-number.number).0 (sym c.has_number.ensures ∙ c.if-not-has_number.false))
