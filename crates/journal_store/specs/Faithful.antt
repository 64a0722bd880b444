-- How a store's file stands for its journal.
use Rattle.std.specs.Prelude.{◌≡◌, ℕ, ◌≤◌, Bool, true, Option, Some, None, List, [], ◌∷◌, Contains}
use Rattle.record_log.specs.Log.{IsReady}
use Rattle.record_log.specs.declared.record_log.RecordLog.{RecordLog}
use Rattle.desk_core.specs.declared.entry.Entry.{Entry}
use Rattle.journal_store.specs.declared.text.Text.{Text}
use Rattle.journal_store.specs.Kept.{Kept, IsLeftOf}
use Rattle.journal_store.specs.Preface.{Front}
use Rattle.journal_store.specs.Record.{HasJournal, IsTextOf}

-- there is a log, and it is ready behind these records
abbrev pub IsOpen : {D : Type 0} → (D → List ℕ) → (D → List ℕ → Type 0) → Option (RecordLog D) → List (List ℕ) → Type 0
IsOpen contents may_leave None records = ⊥
IsOpen contents may_leave (Some log) records = IsReady contents may_leave log records

-- whatever a crash leaves of the device has one of these journals, where a run began with this preface
abbrev pub LeavesOneOf : Front → (List ℕ → Type 0) → List (List Entry) → Type 0
LeavesOneOf start may_leave journals = (file : List ℕ) → may_leave file → (journal : List Entry) × Contains journals journal × HasJournal start file journal

-- the same of a log, if there is one
abbrev pub LogLeaves : {D : Type 0} → Front → (D → List ℕ → Type 0) → Option (RecordLog D) → List (List Entry) → Type 0
LogLeaves start may_leave None journals = Unit {0}
LogLeaves start may_leave (Some log) journals = LeavesOneOf start (may_leave log.device) journals

-- whatever a crash left of a device since it was opened has a journal that a crash leaves or might have left
pub record HasLeftSince {D : Type 0} (moment : D → ℕ) (left_since : D → ℕ → List ℕ → Type 0) (device : D) (kept : Kept) : Type 0 where
  pub later : kept.opened ≤ moment device
  pub each : (file : List ℕ) → left_since device kept.opened file → (journal : List Entry) × IsLeftOf kept.left journal × HasJournal kept.start file journal

-- the same of a log, if there is one
abbrev pub LogHasLeft : {D : Type 0} → (D → ℕ) → (D → ℕ → List ℕ → Type 0) → Option (RecordLog D) → Kept → Type 0
LogHasLeft moment left_since None kept = Unit {0}
LogHasLeft moment left_since (Some log) kept = HasLeftSince moment left_since log.device kept

-- another text that may be that of the file has the same journal
abbrev pub IsOther : Kept → Option Text → Type 0
IsOther kept None = Unit {0}
IsOther kept (Some text) = IsTextOf kept.start text.preface text.written.items kept.journal

-- This text is of records that hold the journal. A log that is open is ready behind them, and a crash leaves the journal and no other; no
-- other text may be that of the file. One that failed leaves one of the journals that a crash may leave. The same holds of each moment
-- since the device was opened
pub record IsFaithful {D : Type 0} (contents : D → List ℕ) (may_leave : D → List ℕ → Type 0) (moment : D → ℕ) (left_since : D → ℕ → List ℕ → Type 0) (log : Option (RecordLog D)) (is_open : Bool) (text : Text) (other : Option Text) (kept : Kept) : Type 0 where
  pub is : IsTextOf kept.start text.preface text.written.items kept.journal
  pub ready : is_open ≡ true → IsOpen contents may_leave log is.records
  pub durable : is_open ≡ true → kept.left.now ≡ kept.journal ∷ []
  pub alone : is_open ≡ true → other ≡ None
  pub crash : LogLeaves kept.start may_leave log kept.left.now
  pub since : LogHasLeft moment left_since log kept
  pub others : IsOther kept other
