-- The journal of a file: what is read in its records, and fits together.
use Rattle.std.specs.Prelude.{ℕ, ◌+◌, ◌^◌, ◌<◌, ◌≤◌, nat_lt, if◌then◌else◌, Option, Some, None, List, All, length}
use Rattle.probe_core.specs.Rule.{relied_on}
use Rattle.desk_core.specs.declared.call.Call.{Call}
use Rattle.desk_core.specs.declared.call.Call.TheVariants.{Register, Retire, Observe, Set, Shutdown, Resume}
use Rattle.entry_record.specs.declared.stored.Stored.{Stored}
use Rattle.record_log.specs.Log.{StandsFor}
use Rattle.journal_store.specs.Preface.{Front}
use Rattle.journal_store.specs.Read.{AreFound}

-- each slot that a change is of has one of so many names: its own, and those that a rule relies on
abbrev pub IsNamed : ℕ → Call → Type 0
IsNamed names (Register slot rule) = (slot < names) × (relied_on rule < 2 ^ names)
IsNamed names (Retire slot) = slot < names
IsNamed names (Observe slot finding) = slot < names
IsNamed names (Set slot setting) = slot < names
IsNamed names Shutdown = Unit {0}
IsNamed names Resume = Unit {0}

-- the preface and the entries of a file: those that stand for older ones are among its entries, its history has no more entries than a
-- registry may have, and each slot has a name
pub record IsJournalOf (file : List ℕ) (front : Front) (stored : List Stored) : Type 0 where
  pub records : List (List ℕ)
  pub stands : StandsFor file records
  pub found : AreFound front records stored
  pub condensed : front.condensed ≤ length stored
  pub few : front.base + length stored < 2 ^ 32
  pub named : All (λ one. IsNamed (length front.names) one.entry.call) stored

-- the number in the history of the entry at a place of the file; the first ones of a file that was written anew stand for older entries,
-- and have none
abbrev pub number_at : Front → ℕ → Option ℕ
number_at front place = if nat_lt place front.condensed then None else Some (front.base + place)
