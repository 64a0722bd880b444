use Rattle.desk_core.proofs.CatalogueLemmas.{IsCatalogue-from_none, fault_in-IsCatalogue, All-from_test, has_too_long-All, HasNoDouble-from_test}
use Rattle.desk_core.proofs.CatalogueLemmas.{has_double-HasNoDouble, Contains-from_test, has_empty_name-Contains}
use Rattle.desk_core.proofs.laws.faultless_names.Goals as goal

pub returns : goal.returns
returns c = record {
  faultless = λ names. (IsCatalogue-from_none names, fault_in-IsCatalogue names);
  short = λ names. (All-from_test names, has_too_long-All names);
  distinct = λ names. (HasNoDouble-from_test names, has_double-HasNoDouble names);
  has_empty = λ names. (Contains-from_test names, has_empty_name-Contains names);
}
