-- What a store keeps, and what a crash leaves of it.
use Rattle.std.specs.Prelude.{◌⊎◌, ℕ, List, [], ◌∷◌, ◌++◌, map, Contains}
use Rattle.desk_core.specs.declared.entry.Entry.{Entry}
use Rattle.desk_core.specs.Left.{Left, Moment, nothing_left}
use Rattle.journal_store.specs.Preface.{Front, new_of}

-- the preface of the file with which a store began, its journal, the journals that a crash leaves now or might have left, and the moment of
-- its device at which that was opened
pub record Kept : Type 0 where
  pub start : Front
  pub journal : List Entry
  pub left : Left
  pub opened : ℕ

-- no entry
abbrev pub nothing_kept : Kept
nothing_kept = record { start = new_of []; journal = []; left = nothing_left; opened = 0 }

-- the journals that a crash may leave while entries are put behind the journal: it, it with all of them, or one that might have been left
-- before
abbrev pub possible : Kept → List Entry → List (List Entry)
possible kept entries = kept.journal ∷ (kept.journal ++ entries) ∷ kept.left.now

-- a moment at which a crash left one of these
abbrev pub moments : List Entry → List (List Entry) → List Moment
moments told journals = map (λ journal. record { told = told; left = journal }) journals

-- a store was asked to keep these entries
abbrev pub asked : Kept → List Entry → Kept
asked kept entries = record {
  start = kept.start;
  journal = kept.journal;
  left = record { now = possible kept entries; ever = moments kept.journal (possible kept entries) ++ kept.left.ever };
  opened = kept.opened;
}

-- it has them, and no crash takes them back
abbrev pub settled : Kept → List Entry → Kept
settled kept entries = record {
  start = kept.start;
  journal = kept.journal ++ entries;
  left = record { now = (kept.journal ++ entries) ∷ []; ever = kept.left.ever };
  opened = kept.opened;
}

-- a store begins with a file of this preface, whose entries are its journal
abbrev pub begun : Kept → Front → List Entry → Kept
begun kept front journal = record { start = front; journal = journal; left = record { now = journal ∷ []; ever = [] }; opened = kept.opened }

-- its device was opened at this moment
abbrev pub opened_at : Kept → ℕ → Kept
opened_at kept moment = record { start = kept.start; journal = kept.journal; left = kept.left; opened = moment }

-- a store of this journal, over a device that was opened at this moment and has a file of this preface
abbrev pub begun_at : ℕ → Front → List Entry → Kept
begun_at moment front journal = record { start = front; journal = journal; left = record { now = journal ∷ []; ever = [] }; opened = moment }

-- the journals that a crash might have left by now
abbrev pub lefts : List Moment → List (List Entry)
lefts ever = map (λ moment. moment.left) ever

-- a crash leaves this journal now, or might have left it
abbrev pub IsLeftOf : Left → List Entry → Type 0
IsLeftOf left journal = Contains left.now journal ⊎ Contains (lefts left.ever) journal
