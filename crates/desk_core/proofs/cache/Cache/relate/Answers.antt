use Rattle.std.proofs.Common.{◌<◌, ◌==◌, if◌then◌else◌, length, get_or, set, ap, ◌∙◌, arith, rules}
use Rattle.std.proofs.lemmas.List.{length-set}
use Rattle.desk_core.specs.Status.{has_slot}
use Rattle.desk_core.specs.Cache.{relies_on}
use Rattle.desk_core.proofs.CacheLemmas.{relating_none, relating_more}
use Rattle.desk_core.proofs.cache.Cache.relate.Goals as goal

pub loop-number-init : goal.loop-number-init
loop-number-init c = record {
  statuses = search rules;
  whole = search rules;
  related = relating_none c.args.slot c.args.rule c.args.self.now.dependents;
}

pub loop-number-preserved : goal.loop-number-preserved
loop-number-preserved c =
    let now = c.loop-number.self.dependents in
    let within : c.loop-number.number < length c.loop-number.self.dependents = omega (arith, c.loop-number.invariant.whole) in
    record {
      statuses = c.loop-number.invariant.statuses;
      whole = length-set c.loop-number.self.dependents c.from-in-loop-number.result c.with_bit.result ∙ c.loop-number.invariant.whole;
      related = relating_more c.args.slot c.args.rule c.args.self.now.dependents now _ c.loop-number.number c.with_bit.result c.loop-number.invariant.related within
          (ap (λ k. set c.loop-number.self.dependents k c.with_bit.result) c.from-in-loop-number.ensures)
          (λ i few. c.with_bit.ensures i few
          ∙ ap (λ b. if i == c.args.slot then b else has_slot (get_or c.loop-number.self.dependents c.from.result 0) i) (c.relies_on.ensures ∙ ap (relies_on c.args.rule) c.at-on.ensures)
          ∙ ap (λ k. if i == c.args.slot then relies_on c.args.rule c.loop-number.number else has_slot (get_or c.loop-number.self.dependents k 0) i) c.from.ensures);
    }

pub returns-clause-dependents : goal.returns-clause-dependents
returns-clause-dependents c i j few below = c.loop-number.invariant.related.done i j few (omega (arith, below))
