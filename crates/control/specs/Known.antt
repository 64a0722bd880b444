-- What a session may ask of the history, and what it is told.
use Rattle.std.specs.Prelude.{◌≡◌, ℕ, Option, None, Some, List}
use Rattle.desk_core.specs.declared.entry.Entry.{Entry}
use Rattle.desk_core.specs.declared.recall.Recall.{Recall}
use Rattle.desk_core.specs.declared.standing.Standing.{Standing}
use Rattle.desk_core.specs.Catalogue.{slot_of}
use Rattle.desk_core.specs.Past.{past}
use Rattle.desk_core.specs.Recall.{recalled}
use Rattle.desk_core.specs.Standing.{standing_at}
use Rattle.script.specs.declared.question.Question.{Question}
use Rattle.script.specs.declared.question.Question.TheVariants.{Why, Status, Entry as EntryAt}
use Rattle.control.specs.declared.answer.Answer.{Answer}
use Rattle.control.specs.declared.answer.Answer.TheVariants.{Described, Explained, Recalled}
use Rattle.control.specs.declared.description.Description.{Description}
use Rattle.control.specs.declared.recollection.Recollection.{Recollection}

-- how a slot stands, or which entry has a place in the journal
pub data Asked : Type 0 where
  OfSlot : ℕ → Asked
  OfPlace : ℕ → Asked

-- what is known of it
pub data Known : Type 0 where
  Stands : Standing → Known
  Recalls : Recall → Known

-- what is known by a history, the newest entry first, of which so many entries are kept
abbrev pub known_of : Option ℕ → List Entry → Asked → Known
known_of kept seen (OfSlot slot) = Stands (standing_at kept seen slot)
known_of kept seen (OfPlace place) = Recalls (recalled kept (past seen) place)

-- The question has this answer, by what is known. When an entry was made, who asked for it, and how often a service is to be reported is told
-- as it was taken down: no definition speaks of that
pub data IsToldOf (names : List (List ℕ)) (knows : Asked → Known → Type 0) : Question → Answer → Type 0 where
  TellsWhy : (name : List ℕ) (slot : ℕ) (standing : Standing) → slot_of names name ≡ Some slot → knows (OfSlot slot) (Stands standing)
      → IsToldOf names knows (Why name) (Explained standing.reason)
  TellsStatus : (name : List ℕ) (slot : ℕ) (description : Description) → slot_of names name ≡ Some slot → knows (OfSlot slot) (Stands description.standing)
      → IsToldOf names knows (Status name) (Described description)
  TellsEntry : (recollection : Recollection) → knows (OfPlace recollection.place) (Recalls recollection.recall)
      → IsToldOf names knows (EntryAt recollection.place) (Recalled recollection)

-- the question is about a name that is not listed
abbrev pub IsOfNone : List (List ℕ) → Question → Type 0
IsOfNone names (Why name) = slot_of names name ≡ None
IsOfNone names (Status name) = slot_of names name ≡ None
IsOfNone names (EntryAt place) = ⊥
