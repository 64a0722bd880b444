-- The texts of answers.
use Rattle.std.specs.Prelude.{ℕ, ◌≡◌, ◌≢◌, Bool, true, false, ◌+◌, List, [], ◌∷◌, ◌++◌, codes, decimal, Option, None, Some, if◌then◌else◌}
use Rattle.std.specs.List.{join_by}
use Rattle.health_wire.specs.declared.serving.Serving.{Serving}
use Rattle.health_wire.specs.declared.serving.Serving.TheVariants.{Unknown, NotServing, ServiceUnknown, Serving as IsServing}
use Rattle.desk_core.specs.declared.reason.Cause.{Cause}
use Rattle.desk_core.specs.declared.reason.Reason.{Reason}
use Rattle.desk_core.specs.declared.reason.Reason.TheVariants as reasons
use Rattle.desk_core.specs.Board.{status_in}
use Rattle.script.specs.RunText.{changed_text, checked_text}
use Rattle.control.specs.declared.answer.Answer.{Answer}
use Rattle.control.specs.declared.answer.Answer.TheVariants.{Changed, Expected, Checked, Board, Listed, Told, Explained, Described, Recalled, NotFound, Stopping, BadLine, TooLong, NotAllowed, NotASession, OutOfMemory, Skipped}
use Rattle.control.specs.declared.description.Description.{Description}
use Rattle.control.specs.declared.stats.Counts.{Counts}
use Rattle.control.specs.declared.stats.Ended.{Ended}
use Rattle.control.specs.declared.stats.OpenNow.{OpenNow}
use Rattle.control.specs.declared.stats.Stats.{Stats}
use Rattle.control.specs.EntryText.{entry_text}
use Rattle.control.specs.NameText.{slot_word, word_of}

-- a status, or that there is none
abbrev pub status_word : Option Serving → List ℕ
status_word (Some IsServing) = codes "serving"
status_word (Some NotServing) = codes "not_serving"
status_word (Some Unknown) = codes "unknown"
status_word (Some ServiceUnknown) = codes "absent"
status_word None = codes "absent"

-- a name with its status
abbrev pub listed : List ℕ → Option Serving → List ℕ
listed name status = word_of name ++ codes "=" ++ status_word status

-- names with the statuses of their slots, of which the first is this one
abbrev pub listed_from : (ℕ → Option Serving) → ℕ → List (List ℕ) → List (List ℕ)
listed_from statuses slot [] = []
listed_from statuses slot (name ∷ names) = listed name (statuses slot) ∷ listed_from statuses (slot + 1) names

-- all names with their statuses, parted by one space
abbrev pub list_text : (ℕ → Option Serving) → List (List ℕ) → List ℕ
list_text statuses names = join_by (λ word. word) (codes " ") (listed_from statuses 0 names)

-- what of a server is open now
abbrev pub open_text : OpenNow → List ℕ
open_text current = codes "connections " ++ decimal current.connections ++ codes " watches " ++ decimal current.watches ++ codes " sessions " ++ decimal current.sessions

-- the calls that have ended
abbrev pub ended_text : Ended → List ℕ
ended_text ended = codes "calls " ++ decimal ended.calls ++ codes " given_up " ++ decimal ended.given_up ++ codes " behind " ++ decimal ended.behind ++ codes " gone " ++ decimal ended.gone

-- what a server counts of connections, calls and expiries
unfoldable pub counts_text : Counts → List ℕ
counts_text counts = open_text counts.current ++ codes " " ++ ended_text counts.ended ++ codes " expired " ++ decimal counts.expired

-- what a server counts
abbrev pub stats_text : Stats → List ℕ
stats_text stats = codes "entries " ++ decimal stats.entries ++ codes " kept " ++ decimal stats.kept ++ codes " " ++ counts_text stats.counts ++ codes " left " ++ decimal stats.left ++ codes " writable " ++ decimal stats.counts.writable

-- an entry that a reason names
abbrev pub cause_text : Cause → List ℕ
cause_text cause = if cause.is_kept then codes "entry " ++ decimal cause.place else codes "an older entry"

-- so many failures in a row, and so many of the passes that were wanted since
abbrev pub row_text : ℕ → Cause → ℕ → ℕ → List ℕ
row_text fails cause passes rise =
    decimal fails ++ codes " fails in a row up to " ++ cause_text cause ++ codes ", " ++ decimal passes ++ codes " of " ++ decimal rise ++ codes " passes since"

-- why a service has its status
abbrev pub reason_text : List (List ℕ) → Reason → List ℕ
reason_text names reasons.Serving = codes "serving"
reason_text names (reasons.ShutDown cause) = codes "not_serving: shut down by " ++ cause_text cause
reason_text names (reasons.DependsOn slot) = codes "not_serving: depends on " ++ slot_word names slot
reason_text names (reasons.Failed fails cause passes rise) = codes "not_serving: " ++ row_text fails cause passes rise
reason_text names (reasons.SetDown cause) = codes "not_serving: set down by " ++ cause_text cause
reason_text names (reasons.Unheard cause) = codes "unknown: nothing heard since " ++ cause_text cause
reason_text names (reasons.Retired cause) = codes "absent: retired by " ++ cause_text cause
reason_text names reasons.NeverRegistered = codes "absent: never registered"

-- the place of an entry or a number of seconds, if there is one
abbrev pub number_text : Option ℕ → List ℕ
number_text None = codes "-"
number_text (Some number) = decimal number

-- when an entry was made, where that is known
abbrev pub time_text : Option (List ℕ) → List ℕ
time_text None = codes "-"
time_text (Some time) = time

-- since which entry a service has its status, and which is its newest report
abbrev pub entries_text : Description → List ℕ
entries_text description =
    codes "since " ++ number_text description.standing.since ++ codes " " ++ time_text description.since
    ++ codes " reported " ++ number_text description.standing.reported ++ codes " " ++ time_text description.reported

-- how a service stands
abbrev pub description_text : List (List ℕ) → Description → List ℕ
description_text names description =
    entries_text description ++ codes " expected " ++ number_text description.seconds ++ codes " " ++ reason_text names description.standing.reason

-- the text of an answer that has one of a few
abbrev pub short_text : Answer → Option (List ℕ)
short_text (Changed result) = Some (changed_text result)
short_text (Expected result) = Some (changed_text result)
short_text (Checked status) = Some (checked_text status)
short_text (Board word) = None
short_text (Listed word) = None
short_text (Told stats) = None
short_text (Explained reason) = None
short_text (Described description) = None
short_text (Recalled recollection) = None
short_text NotFound = Some (codes "not found")
short_text Stopping = Some (codes "stopping")
short_text BadLine = Some (codes "bad line")
short_text TooLong = Some (codes "line too long")
short_text NotAllowed = Some (codes "not allowed")
short_text NotASession = Some (codes "not a session")
short_text OutOfMemory = Some (codes "refused no memory")
short_text Skipped = None

-- the text of any other answer; a line without a byte has none
abbrev pub long_text : List (List ℕ) → Answer → List ℕ
long_text names (Changed result) = []
long_text names (Expected result) = []
long_text names (Checked status) = []
long_text names (Board word) = decimal word
long_text names (Listed word) = list_text (status_in word) names
long_text names (Told stats) = stats_text stats
long_text names (Explained reason) = reason_text names reason
long_text names (Described description) = description_text names description
long_text names (Recalled recollection) = entry_text names recollection.place recollection.note recollection.recall
long_text names NotFound = []
long_text names Stopping = []
long_text names BadLine = []
long_text names TooLong = []
long_text names NotAllowed = []
long_text names NotASession = []
long_text names OutOfMemory = []
long_text names Skipped = []

-- the line that is sent for an answer, over a catalogue of these names: its text and LF, or nothing for a line without a byte
abbrev pub answer_text : List (List ℕ) → Answer → List ℕ
answer_text names (Changed result) = changed_text result ++ codes "\n"
answer_text names (Expected result) = changed_text result ++ codes "\n"
answer_text names (Checked status) = checked_text status ++ codes "\n"
answer_text names (Board word) = decimal word ++ codes "\n"
answer_text names (Listed word) = list_text (status_in word) names ++ codes "\n"
answer_text names (Told stats) = stats_text stats ++ codes "\n"
answer_text names (Explained reason) = reason_text names reason ++ codes "\n"
answer_text names (Described description) = description_text names description ++ codes "\n"
answer_text names (Recalled recollection) = entry_text names recollection.place recollection.note recollection.recall ++ codes "\n"
answer_text names NotFound = codes "not found\n"
answer_text names Stopping = codes "stopping\n"
answer_text names BadLine = codes "bad line\n"
answer_text names TooLong = codes "line too long\n"
answer_text names NotAllowed = codes "not allowed\n"
answer_text names NotASession = codes "not a session\n"
answer_text names OutOfMemory = codes "refused no memory\n"
answer_text names Skipped = []

-- no line behind the one that has this answer is answered: the server ends, or the line was too long or none of a session
abbrev pub ends_session : Answer → Bool
ends_session (Changed result) = false
ends_session (Expected result) = false
ends_session (Checked status) = false
ends_session (Board word) = false
ends_session (Listed word) = false
ends_session (Told stats) = false
ends_session (Explained reason) = false
ends_session (Described description) = false
ends_session (Recalled recollection) = false
ends_session NotFound = false
ends_session Stopping = true
ends_session BadLine = false
ends_session TooLong = true
ends_session NotAllowed = false
ends_session NotASession = true
ends_session OutOfMemory = false
ends_session Skipped = false

-- what is told of an answer: itself, or that there is no memory for its text, where it is not one of a few
pub data IsTold (answer : Answer) : Answer → Type 0 where
  AsItIs : IsTold answer answer
  CutShort : short_text answer ≡ None → answer ≢ Skipped → IsTold answer OutOfMemory
