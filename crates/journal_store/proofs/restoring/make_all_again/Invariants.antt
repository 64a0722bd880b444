use Rattle.std.proofs.Common.{◌≡◌, false, take}
use Rattle.desk_core.specs.Past.{past}
use Rattle.desk_core.specs.Legal.{IsLegal}
use Rattle.journal_store.specs.Record.{restored_of}
use Rattle.journal_store.proofs.restoring.make_all_again.Given as goal

abbrev pub invariant-loop-number : goal.invariant-loop-number
invariant-loop-number g l = record {
  journal : l.desk.journal ≡ restored_of (take l.number l.stored);
  most : l.desk.max_entries ≡ l.fn.desk.max_entries;
  unstored : l.desk.is_stored ≡ false;
  legal : IsLegal (past l.desk.journal);
}
