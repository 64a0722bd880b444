use Rattle.std.proofs.Common.{◌∙◌, ap, length, max}
use Rattle.running.proofs.RunLemmas.{wholly_again}
use Rattle.running.proofs.journaled.set_up_over.Goals as goal

pub returns-in-Ok : goal.returns-in-Ok
returns-in-Ok g c =
    let of = c.in_ok-catalogue.ensures in
    let known = c.in-Ok.ensures in
    let entries = c.in_ok-journal.journal.entries in
    record {
      ok = record {
        script = of.script;
        is = of.is;
        journal = entries;
        names = known.hall.0 ∙ (c.in_ok-journal.ensures.names ∙ of.names_are);
        most = known.hall.1 ∙ ap (λ most. max most (length entries)) of.most_is;
        seats_are = known.hall.2;
        whole = wholly_again entries c.in-Ok.made c.args.seats known.hall.2 known.seats known.replies;
        seen = known.seen;
      };
    }
