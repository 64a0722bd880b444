use Rattle.journal_store.proofs.AlikeLemmas.{alike_later, reply_same, status_same, checked_same, shown_same, entry_changes}
use Rattle.desk_core.specs.Catalogue.{slot_of}
use Rattle.journal_store.proofs.laws.alike_for_good.Goals as goal

pub returns : goal.returns
returns c = record {
  later = λ newer one other alike legal too. (alike_later newer one other alike legal too).1;
  legal = λ newer one other alike legal too. (alike_later newer one other alike legal too).0;
  reply = reply_same;
  shut = λ one other alike. alike.shut;
  status = status_same;
  shown = λ one other slot alike legal too. (checked_same one other slot alike legal too, shown_same one other slot alike legal too);
  map = λ names one other name alike legal too. checked_same one other (slot_of names name) alike legal too;
  changes = entry_changes;
}
