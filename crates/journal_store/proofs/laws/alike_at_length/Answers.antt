use Rattle.journal_store.proofs.AlikeLemmas.{answered_same, all_answered, stand_same, newer_changes}
use Rattle.journal_store.proofs.laws.alike_at_length.Goals as goal

pub returns : goal.returns
returns c = record {
  answer = λ most size seat one other after call result stand answered. answered_same size other stand answered;
  answers = λ most size one other after calls results stand answered. all_answered size other stand answered;
  same = stand_same;
  changes = newer_changes;
}
