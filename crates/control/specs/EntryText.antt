-- The text of an entry of the journal: its place, when it was made, who asked for it, and what came of it.
use Rattle.std.specs.Prelude.{ℕ, zero, suc, List, [], ◌++◌, codes, decimal, Option, None, Some, Ok, if◌then◌else◌}
use Rattle.chronicle.specs.declared.chronicle.Note.{Note}
use Rattle.chronicle.specs.declared.who.Who.{Who}
use Rattle.chronicle.specs.declared.who.Who.TheVariants.{Setup, Session, Expiry}
use Rattle.probe_core.specs.declared.rule.Rule.{Rule}
use Rattle.probe_core.specs.declared.rule.Rule.TheVariants.{Threshold, Manual, Depends}
use Rattle.probe_core.specs.declared.start.Start.{Start}
use Rattle.probe_core.specs.declared.start.Start.TheVariants.{Up as StartsUp, Unknown as StartsUnknown}
use Rattle.desk_core.specs.declared.call.Call.{Call}
use Rattle.desk_core.specs.declared.call.Call.TheVariants.{Register, Retire, Observe, Set, Shutdown, Resume}
use Rattle.desk_core.specs.declared.call.Finding.TheVariants.{Pass, Fail}
use Rattle.desk_core.specs.declared.call.Setting.TheVariants.{Up, Down}
use Rattle.desk_core.specs.declared.entry.Entry.{Entry}
use Rattle.desk_core.specs.declared.recall.Recall.{Recall}
use Rattle.desk_core.specs.declared.recall.Recall.TheVariants.{Kept, Forgotten, NoneYet}
use Rattle.desk_core.specs.Status.{has_slot}
use Rattle.script.specs.RunText.{changed_text}
use Rattle.control.specs.NameText.{slot_word}

-- whether a service starts unknown, as a line `register` has it
abbrev pub start_text : Start → List ℕ
start_text StartsUp = []
start_text StartsUnknown = codes " unknown"

-- the names of the slots of a mask below the n-th, each behind a space
unfoldable pub mask_text : List (List ℕ) → ℕ → ℕ → List ℕ
mask_text names mask zero = []
mask_text names mask (suc n) = mask_text names mask n ++ (if has_slot mask n then codes " " ++ slot_word names n else [])

-- a rule, as a line `register` has it
abbrev pub rule_text : List (List ℕ) → Rule → List ℕ
rule_text names (Threshold fall rise start) = codes " threshold " ++ decimal fall ++ codes " " ++ decimal rise ++ start_text start
rule_text names Manual = codes " manual"
rule_text names (Depends mask) = codes " depends" ++ mask_text names mask 16

-- a change, as a line that asks for it
abbrev pub call_text : List (List ℕ) → Call → List ℕ
call_text names (Register slot rule) = codes "register " ++ slot_word names slot ++ rule_text names rule
call_text names (Retire slot) = codes "retire " ++ slot_word names slot
call_text names (Observe slot Pass) = codes "pass " ++ slot_word names slot
call_text names (Observe slot Fail) = codes "fail " ++ slot_word names slot
call_text names (Set slot Up) = codes "up " ++ slot_word names slot
call_text names (Set slot Down) = codes "down " ++ slot_word names slot
call_text names Shutdown = codes "shutdown"
call_text names Resume = codes "resume"

-- who asked for an entry
abbrev pub who_text : Who → List ℕ
who_text Setup = codes "setup"
who_text (Session number) = codes "session " ++ decimal number
who_text Expiry = codes "expiry"

-- when an entry was made and who asked for it, where that is known
abbrev pub note_text : Option Note → List ℕ
note_text None = codes "- -"
note_text (Some note) = note.time ++ codes " " ++ who_text note.who

-- what came of an entry
abbrev pub done_text : List (List ℕ) → Entry → List ℕ
done_text names entry = call_text names entry.call ++ codes ": " ++ changed_text (Ok entry.reply)

-- the entry at a place, as far as it is known
abbrev pub entry_text : List (List ℕ) → ℕ → Option Note → Recall → List ℕ
entry_text names place note (Kept entry) = decimal place ++ codes " " ++ note_text note ++ codes " " ++ done_text names entry
entry_text names place _ Forgotten = codes "forgotten"
entry_text names place _ NoneYet = codes "none yet"
