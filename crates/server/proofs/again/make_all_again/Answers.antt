use Rattle.std.proofs.Common.{◌≡◌, ◌++◌, ◌∷◌, [], Ok, true, ap, ◌∙◌}
use Rattle.server.proofs.AgainLemmas.{all_made, all_replied, made_more, none_made}
use Rattle.server.proofs.again.make_all_again.Goals as goal

pub loop-number-init : goal.loop-number-init
loop-number-init g c = record { made = none_made c.args.seat.now _ c.in_ok-results.ensures.items; ours = c.requires.ours }

pub loop-number-preserved : goal.loop-number-preserved
loop-number-preserved g c =
    let yes : c.make_again.result ≡ Ok true = c.in_ok-make_again.was ∙ ap Ok c.if-not-branch.false in
    let pushed : c.push.new.self.items ≡ c.loop-number.results.items ++ Ok c.index-entries-number.result.reply ∷ [] = c.in_ok-push.ensures.items in
    record {
      made = made_more c.args.seat.now c.loop-number.seat c.make_again.new.seat c.args.entries.now c.loop-number.number c.index-entries-number.result
          c.loop-number.results.items c.push.new.self.items c.loop-number-test.true c.index-entries-number.is c.loop-number.invariant.made (c.make_again.ensures.made yes) pushed;
      ours = c.make_again.ensures.ours;
    }

pub returns-clause-met : goal.returns-clause-met
returns-clause-met g c =
    all_made c.args.seat.now c.loop-number.seat c.args.entries.now c.loop-number.number c.loop-number.results.items c.loop-number-test.false c.loop-number.invariant.made

pub returns-clause-replies : goal.returns-clause-replies
returns-clause-replies g c =
    all_replied c.args.seat.now c.loop-number.seat c.args.entries.now c.loop-number.number c.loop-number.results.items c.loop-number-test.false c.loop-number.invariant.made

pub bounds-entries-number : goal.bounds-entries-number
bounds-entries-number g c = c.loop-number-test.true
