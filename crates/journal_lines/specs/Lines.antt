-- What is printed of a journal's file: a line for each entry, the oldest first.
use Rattle.std.specs.Prelude.{◌≡◌, ℕ, ◌+◌, min, Option, Some, None, List, [], ◌∷◌, ◌++◌, codes}
use Rattle.chronicle.specs.Time.{IsTextOf}
use Rattle.chronicle.specs.declared.chronicle.Note.{Note}
use Rattle.desk_core.specs.declared.entry.Entry.{Entry}
use Rattle.desk_core.specs.declared.recall.Recall.TheVariants.{Kept}
use Rattle.entry_record.specs.declared.stored.Stored.{Stored}
use Rattle.journal_store.specs.Preface.{Front}
use Rattle.control.specs.EntryText.{done_text, entry_text, note_text}
use Rattle.control.specs.Line.{ended}
use Rattle.journal_lines.specs.Journal.{IsJournalOf, number_at}

-- the line of an entry: what a session answers to `entry N`, or the same with `-` in place of the number
abbrev pub line_text : List (List ℕ) → Option ℕ → Note → Entry → List ℕ
line_text names (Some number) note entry = entry_text names number (Some note) (Kept entry)
line_text names None note entry = codes "- " ++ note_text (Some note) ++ codes " " ++ done_text names entry

-- the line of a stored entry with this number, if it has one; a time past the year 9999 has the text of its last microsecond
pub record IsLine (names : List (List ℕ)) (number : Option ℕ) (stored : Stored) (line : List ℕ) : Type 0 where
  pub time : List ℕ
  pub is_time : IsTextOf (min stored.micros 253402300799999999) time
  pub is : line ≡ line_text names number (record { time = time; who = stored.who }) stored.entry

-- the lines of entries, of which the first stands at this place of the file
abbrev pub AreLines : Front → ℕ → List Stored → List ℕ → Type 0
AreLines front place [] text = text ≡ []
AreLines front place (one ∷ stored) text = (line rest : List ℕ) × IsLine front.names (number_at front place) one line × AreLines front (place + 1) stored rest × (text ≡ ended line ++ rest)

-- the text that is printed of a file
pub record IsPrinted (file text : List ℕ) : Type 0 where
  pub front : Front
  pub stored : List Stored
  pub journal : IsJournalOf file front stored
  pub lines : AreLines front 0 stored text
