use Rattle.std.proofs.Common.{◌≡◌, false, List, ℕ}
use Rattle.std.specs.Io.KnownBytes.{Appends, Consumes}
use Rattle.web_call.specs.declared.method.Method.TheVariants.{Watch}
use Rattle.client.specs.Ask.{IsWithin}
use Rattle.client.specs.Lent.{lent_inner, lent_failed, lent_name}
use Rattle.client.specs.Stages.{Holds, method_of, most_of, owed_of, statuses_of}
use Rattle.client.proofs.watching.read_aloud.Given as goal

abbrev pub invariant-loop-piece : goal.invariant-loop-piece
invariant-loop-piece g l = record {
  received : (bytes : List ℕ)
      × Consumes (g.R.Read.remaining (lent_inner l.initial.reader)) (g.R.Read.remaining (lent_inner l.reader)) bytes × Holds bytes l.reply
      × IsWithin Watch l.fn.most bytes;
  method : method_of l.reply ≡ Watch;
  most : most_of l.reply ≡ l.fn.most;
  same : lent_name l.reader ≡ lent_name l.initial.reader;
  kept : lent_failed l.reader ≡ lent_failed l.initial.reader;
  heard : Appends (g.L.Listener.heard l.initial.listener) (g.L.Listener.heard l.listener) (statuses_of l.reply);
  wants : g.L.Listener.has_enough l.listener ≡ false;
}

abbrev pub decreases-loop-piece : goal.decreases-loop-piece
decreases-loop-piece g l = owed_of l.reply
