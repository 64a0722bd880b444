-- How far a call has come.
use Rattle.std.specs.Prelude.{ℕ, ◌≤◌, Bool, true, false, ◌||◌, is_some, Option, None, Some, List, vec_len, length, nat_eq, if◌then◌else◌}
use Rattle.std.specs.Int.{from_bool}
use Rattle.desk_core.specs.declared.entry.Entry.{Entry}
use Rattle.desk_core.specs.Changes.{changes_of}
use Rattle.desk_core.specs.Watch.{IsBehind}
use Rattle.web_call.specs.declared.call.Call.{Call}
use Rattle.web_call.specs.declared.call.CallStage.{CallStage}
use Rattle.web_call.specs.declared.call.CallStage.TheVariants.{Reading, Watching, Ending, Starved}
use Rattle.web_call.specs.declared.outcome.Outcome.{Outcome}
use Rattle.web_call.specs.declared.outcome.Outcome.TheVariants.{Http, Status, Watched, Behind, Plain}
use Rattle.web_call.specs.Outgoing.{left_of, frames_out}
use Rattle.web_call.specs.Reading as reading
use Rattle.web_call.specs.Text.{text_bytes}

abbrev pub opens : CallStage → Bool
opens (Reading intake) = reading.is_open intake.reading
opens (Watching watch) = false
opens (Ending outcome) = false
opens Starved = false

-- more of the request is wanted
abbrev pub is_open : Call → Bool
is_open call = opens call.stage

abbrev pub wants : CallStage → ℕ
wants (Reading intake) = reading.wanted intake.reading
wants (Watching watch) = 0
wants (Ending outcome) = 0
wants Starved = 0

-- how many bytes are wanted at least
abbrev pub wanted_by : Call → ℕ
wanted_by call = wants call.stage

abbrev pub owes : CallStage → ℕ
owes (Reading intake) = reading.owed intake.reading (vec_len intake.head)
owes (Watching watch) = 0
owes (Ending outcome) = 0
owes Starved = 0

-- how many bytes of the request may come yet, at most
abbrev pub owed : Call → ℕ
owed call = owes call.stage

abbrev pub waits : CallStage → Bool
waits (Reading intake) = reading.is_whole intake.reading
waits (Watching watch) = false
waits (Ending outcome) = false
waits Starved = false

-- the request is whole and waits to be answered
abbrev pub is_whole : Call → Bool
is_whole call = waits call.stage

abbrev pub watches : CallStage → Bool
watches (Reading intake) = false
watches (Watching watch) = true
watches (Ending outcome) = false
watches Starved = false

-- a Watch is open
abbrev pub is_watching : Call → Bool
is_watching call = watches call.stage

abbrev pub starves : CallStage → Bool
starves (Reading intake) = reading.starves intake.reading
starves (Watching watch) = false
starves (Ending outcome) = false
starves Starved = true

-- an allocation failed
abbrev pub is_starved : Call → Bool
is_starved call = starves call.stage

abbrev pub asks : CallStage → ℕ
asks (Reading intake) = from_bool (reading.is_open intake.reading || reading.is_whole intake.reading)
asks (Watching watch) = 0
asks (Ending outcome) = 0
asks Starved = 0

-- how often the door may still be asked for the request: once until it is answered, or an allocation fails
abbrev pub may_ask : Call → ℕ
may_ask call = asks call.stage

abbrev pub answers : CallStage → Bool
answers (Reading intake) = false
answers (Watching watch) = true
answers (Ending outcome) = true
answers Starved = false

-- an answer is being sent, or was
abbrev pub is_answered : Call → Bool
is_answered call = answers call.stage

abbrev pub ends_with : CallStage → Option Outcome
ends_with (Reading intake) = None
ends_with (Watching watch) = None
ends_with (Ending outcome) = Some outcome
ends_with Starved = None

-- how the call ends once all is sent, where what is being sent is the last of it
abbrev pub ending_of : Call → Option Outcome
ending_of call = ends_with call.stage

abbrev pub IsBehindAt : Option ℕ → List Entry → CallStage → Type 0
IsBehindAt kept entries (Reading intake) = ⊥
IsBehindAt kept entries (Watching watch) = IsBehind kept (changes_of entries) watch
IsBehindAt kept entries (Ending outcome) = ⊥
IsBehindAt kept entries Starved = ⊥

-- the call is a Watch that is behind at this history, of whose changes so many are kept
abbrev pub IsLeftBehind : Option ℕ → List Entry → Call → Type 0
IsLeftBehind kept entries call = IsBehindAt kept entries call.stage

abbrev pub IsPastAt : List Entry → CallStage → Type 0
IsPastAt entries (Reading intake) = ⊥
IsPastAt entries (Watching watch) = length (changes_of entries) ≤ watch.cursor
IsPastAt entries (Ending outcome) = ⊥
IsPastAt entries Starved = ⊥

-- the call is a Watch that is past every change of this history, so that none is left for it to be told
abbrev pub IsPast : List Entry → Call → Type 0
IsPast entries call = IsPastAt entries call.stage

-- the call ends as a Watch does
abbrev pub ends_watch : Option Outcome → Bool
ends_watch None = false
ends_watch (Some (Watched messages)) = true
ends_watch (Some (Behind messages)) = true
ends_watch (Some (Http http)) = false
ends_watch (Some (Status code)) = false
ends_watch (Some Plain) = false

-- what is still to be sent
abbrev pub to_send : Call → List ℕ
to_send call = left_of call.outgoing

-- how the call ended, if it did
abbrev pub outcome_of : Call → Option Outcome
outcome_of call = if nat_eq (length (to_send call)) 0 then ending_of call else None

-- the call is at its end
abbrev pub is_done : Call → Bool
is_done call = is_some (outcome_of call) || is_starved call

-- the text that is being sent, with what went out of it
abbrev pub being_sent : Call → List ℕ
being_sent call = text_bytes call.outgoing.text

-- how many frames went out whole
abbrev pub frames_of : Call → ℕ
frames_of call = frames_out call.outgoing
