-- What the records in a journal's file say of its entries.
use Rattle.std.specs.Prelude.{◌≡◌, ◌⊎◌, ℕ, List, [], ◌∷◌, ◌++◌, map}
use Rattle.record_log.specs.Log.{StandsFor, blocks}
use Rattle.desk_core.specs.declared.entry.Entry.{Entry}
use Rattle.desk_core.specs.Mutation.{entry_of}
use Rattle.entry_record.specs.Format.{bytes_of}
use Rattle.entry_record.specs.Range.{IsStored}
use Rattle.entry_record.specs.declared.stored.Stored.{Stored}
use Rattle.journal_store.specs.Preface.{Front, IsFront, preface_of}
use Rattle.journal_store.specs.Standing.{StandFor}

-- a record is of this entry: it has its call and its reply, beside a seat, a time and who asked. Seats are those of one run, so they are
-- not compared
pub record IsRecordOf (bytes : List ℕ) (entry : Entry) : Type 0 where
  pub stored : Stored
  pub ranged : IsStored stored
  pub whole : bytes ≡ bytes_of stored
  pub call : stored.entry.call ≡ entry.call
  pub reply : stored.entry.reply ≡ entry.reply

-- each record is of the entry at its place, and there are as many
abbrev pub AreRecords : List (List ℕ) → List Entry → Type 0
AreRecords [] [] = Unit {0}
AreRecords [] (entry ∷ entries) = ⊥
AreRecords (bytes ∷ records) [] = ⊥
AreRecords (bytes ∷ records) (entry ∷ entries) = IsRecordOf bytes entry × AreRecords records entries

-- the records of a file with this preface and this journal: none as long as it has no entry, or the preface's, and then those of its
-- entries
abbrev pub AreOf : Front → List (List ℕ) → List Entry → Type 0
AreOf front records journal = ((records ≡ []) × (journal ≡ []))
    ⊎ ((behind : List (List ℕ)) × (records ≡ preface_of front ++ behind) × AreRecords behind journal)

-- what is put behind the blocks of a file for these entries: their records, and in front of them the preface's where there are no blocks
abbrev pub AreAdded : Front → List ℕ → List (List ℕ) → List Entry → Type 0
AreAdded front [] batch entries = (behind : List (List ℕ)) × (batch ≡ preface_of front ++ behind) × AreRecords behind entries
AreAdded front (byte ∷ written) batch entries = AreRecords batch entries

-- records behind a preface hold this journal, where a run began with the first preface: their entries stand for it
pub record HoldJournal (start front : Front) (records : List (List ℕ)) (journal : List Entry) : Type 0 where
  pub fits : IsFront front
  pub entries : List Entry
  pub are : AreOf front records entries
  pub stand : StandFor start front entries journal

-- a text is of the blocks of such records
pub record IsTextOf (start front : Front) (text : List ℕ) (journal : List Entry) : Type 0 where
  pub records : List (List ℕ)
  pub whole : text ≡ blocks records
  pub hold : HoldJournal start front records journal

-- the same with a closed gate behind the blocks
pub record IsFileOf (start front : Front) (file : List ℕ) (journal : List Entry) : Type 0 where
  pub records : List (List ℕ)
  pub whole : file ≡ blocks records ++ 0 ∷ []
  pub hold : HoldJournal start front records journal

-- a file, as a crash may leave it, has this journal, where a run began with this preface
pub record HasJournal (start : Front) (file : List ℕ) (journal : List Entry) : Type 0 where
  pub front : Front
  pub records : List (List ℕ)
  pub stands : StandsFor file records
  pub hold : HoldJournal start front records journal

-- the entry that a restart makes of a stored one: it is of the first seat of the new run, which makes a setup too
abbrev pub restored : Stored → Entry
restored stored = entry_of 0 stored.entry.call stored.entry.reply

-- the journal that a restart makes of the entries of a file
abbrev pub restored_of : List Stored → List Entry
restored_of entries = map restored entries
