-- What is read in the records of a file.
use Rattle.std.specs.Prelude.{◌≡◌, ℕ, ◌<◌, List, [], ◌∷◌, ◌++◌, length, slice_index_or}
use Rattle.entry_record.specs.Format.{bytes_of}
use Rattle.entry_record.specs.Range.{IsStored}
use Rattle.entry_record.specs.declared.stored.Stored.{Stored}
use Rattle.journal_store.specs.Preface.{Front, preface_of}

-- each record has the bytes of the entry at its place, and there are as many
abbrev pub AreRead : List (List ℕ) → List Stored → Type 0
AreRead [] [] = Unit {0}
AreRead [] (one ∷ stored) = ⊥
AreRead (bytes ∷ records) [] = ⊥
AreRead (bytes ∷ records) (one ∷ stored) = IsStored one × (bytes ≡ bytes_of one) × AreRead records stored

-- what was found in a file: nothing, or the records of this preface and, behind them, those of these entries
abbrev pub AreFound : Front → List (List ℕ) → List Stored → Type 0
AreFound front [] stored = stored ≡ []
AreFound front (first ∷ records) stored = (behind : List (List ℕ)) × (first ∷ records ≡ preface_of front ++ behind) × AreRead behind stored

-- what was found has fewer entries than stand for older ones by its preface
pub record HasTooFew (found : List (List ℕ)) : Type 0 where
  pub front : Front
  pub behind : List (List ℕ)
  pub stored : List Stored
  pub whole : found ≡ preface_of front ++ behind
  pub read : AreRead behind stored
  pub missing : length stored < front.condensed

-- the record of this number has the bytes of no entry
pub record IsNoEntry (records : List (List ℕ)) (number : ℕ) : Type 0 where
  pub inside : number < length records
  pub none : (stored : Stored) → IsStored stored → slice_index_or records number [] ≡ bytes_of stored → ⊥
