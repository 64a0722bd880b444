-- How a desk keeps since when services have their status, and no part of its promise.
use Rattle.std.specs.Prelude.{◌≡◌, ℕ, ◌<◌, if◌then◌else◌, None, Some, List, [], slice_index_or}
use Rattle.desk_core.specs.declared.entry.Entry.{Entry}
use Rattle.desk_core.specs.declared.latest.Latest.{Latest}
use Rattle.desk_core.specs.Changes.{is_same}
use Rattle.desk_core.specs.Reason.{newest}
use Rattle.desk_core.specs.Slots.{shown_in}
use Rattle.desk_core.specs.Standing.{flips, reports}

-- nothing was shown of a slot, and it was not reported
abbrev pub nothing_yet : Latest
nothing_yet = record { shown = None; reported = None }

-- what is kept of slot i behind this entry at this place, where the statuses before and behind it are those of two words
abbrev pub next_latest : ℕ → Entry → ℕ → ℕ → ℕ → Latest → Latest
next_latest i entry at before after latest = record {
  shown = if is_same (shown_in before i) (shown_in after i) then latest.shown else Some at;
  reported = if reports i entry [] then Some at else latest.reported;
}

-- it is a slot's
pub record IsLatest (entries : List Entry) (i : ℕ) (latest : Latest) : Type 0 where
  pub shown : latest.shown ≡ newest (flips i) entries
  pub reported : latest.reported ≡ newest (reports i) entries

-- what is kept of each slot is its own
abbrev pub AreLatest : List Entry → List Latest → Type 0
AreLatest entries slots = (i : ℕ) (other : Latest) → i < 16 → IsLatest entries i (slice_index_or slots i other)
