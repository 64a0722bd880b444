-- What a history comes to, and the short history that comes to the same. A history has its newest entry first.
use Rattle.std.specs.Prelude.{◌≡◌, ℕ, Bool, Option, None, List, length, slice_index_or}
use Rattle.probe_core.specs.declared.rule.Rule.{Rule}
use Rattle.desk_core.specs.declared.entry.Entry.{Entry}
use Rattle.desk_core.specs.Shut.{is_shut}
use Rattle.desk_core.specs.Legal.{IsLegal}
use Rattle.desk_core.specs.Desk.{probe_at}

-- for each slot the rule and the memory of its probe, or none; whether the server is shut down; and a number of entries
pub record Summary : Type 0 where
  pub probes : List (Option (Rule × ℕ))
  pub is_shut : Bool
  pub len : ℕ

-- a digest is of this history, which is legal
pub record IsDigest (digest : Summary) (history : List Entry) : Type 0 where
  pub legal : IsLegal history
  pub probes : (i : ℕ) → slice_index_or digest.probes i None ≡ probe_at history i
  pub shut : digest.is_shut ≡ is_shut history
  pub len : digest.len ≡ length history
