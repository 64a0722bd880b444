-- What a crash leaves of a store: the journals that the next run may begin with, the oldest entry first.
use Rattle.std.specs.Prelude.{◌≡◌, ◌⊎◌, Bool, true, false, List, [], ◌++◌, Option, Some, None, All, Contains}
use Rattle.desk_core.specs.declared.entry.Entry.{Entry}

-- a moment of a store: the journal that it had been asked to keep by then, and one that a crash then might have left
pub record Moment : Type 0 where
  pub told : List Entry
  pub left : List Entry

-- those that a crash now may leave, and the moments so far, the newest first
pub record Left : Type 0 where
  pub now : List (List Entry)
  pub ever : List Moment

-- nothing outlives the process
abbrev pub nothing_left : Left
nothing_left = record { now = []; ever = [] }

-- of a store, where there is one
abbrev pub left_of : {S : Type 0} → (S → Left) → Option S → Left
left_of left None = nothing_left
left_of left (Some store) = left store

-- whether there is a store
abbrev pub is_stored : {S : Type 0} → Option S → Bool
is_stored None = false
is_stored (Some store) = true

-- it stands for the journal, where there is one
abbrev pub StandsIf : {S : Type 0} → (S → List Entry → Type 0) → Option S → List Entry → Type 0
StandsIf stands None journal = Unit {0}
StandsIf stands (Some store) journal = stands store journal

-- a crash now leaves this journal, and no other
pub record LeavesJournal (left : Left) (journal : List Entry) : Type 0 where
  pub each : All (λ j. j ≡ journal) left.now

-- the journal begins with this one
abbrev pub Begins : List Entry → List Entry → Type 0
Begins journal j = (more : List Entry) × (j ≡ journal ++ more)

-- at this moment a crash took back nothing that had been told by then, which was a beginning of this journal
pub record IsKept (journal : List Entry) (moment : Moment) : Type 0 where
  pub told : Begins moment.told journal
  pub kept : Begins moment.told moment.left

-- a crash now takes back nothing of this journal, and at no moment so far it would have taken back anything told by then
pub record Holds (left : Left) (journal : List Entry) : Type 0 where
  pub now : All (Begins journal) left.now
  pub ever : All (IsKept journal) left.ever

-- one of the two journals, or one that a crash might have left before
abbrev pub IsOneOf : Left → List Entry → List Entry → List Entry → Type 0
IsOneOf old before after j = Contains old.now j ⊎ (j ≡ before) ⊎ (j ≡ after)

-- a moment of storing entries behind a journal, which ends with all of them
pub record IsBetween (old : Left) (before after : List Entry) (moment : Moment) : Type 0 where
  pub told : moment.told ≡ before
  pub left : IsOneOf old before after moment.left

-- entries were to be stored behind a journal: at no moment since did a crash leave anything but what one might have left before,
-- the journal, or the journal with all of them
pub record HasLeft (old new : Left) (before after : List Entry) : Type 0 where
  pub more : List Moment
  pub ever : new.ever ≡ more ++ old.ever
  pub each : All (IsBetween old before after) more
  pub now : All (IsOneOf old before after) new.now
