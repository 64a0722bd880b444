-- A script that is run: its lines one after the other, by one thread over a new registry.
use Rattle.std.specs.Prelude.{ℕ, ◌≡◌, ◌≢◌, List, [], ◌∷◌, ◌++◌, length, codes, slice_get, slice_set, Option, Some, Result, Err}
use Rattle.health_wire.specs.declared.serving.Serving.{Serving}
use Rattle.desk_core.specs.declared.call.Call.{Call}
use Rattle.desk_core.specs.declared.entry.Entry.{Entry}
use Rattle.desk_core.specs.declared.refusal.Refusal.{Refusal}
use Rattle.desk_core.specs.declared.refusal.Refusal.TheVariants.{NotStored}
use Rattle.desk_core.specs.declared.reply.Reply.{Reply}
use Rattle.desk_core.specs.Board.{board_of}
use Rattle.desk_core.specs.Catalogue.{slot_of}
use Rattle.desk_core.specs.Changes.{changes_of}
use Rattle.desk_core.specs.Mutation.{IsAnswered}
use Rattle.desk_core.specs.Status.{status_map, shown}
use Rattle.desk_core.specs.Watch.{WatchState, opened, stepped}
use Rattle.script.specs.declared.line.Line.{Line}
use Rattle.script.specs.declared.line.Line.TheVariants.{Check, Open, Step, Board}
use Rattle.script.specs.declared.outcome.Outcome.{Outcome}
use Rattle.script.specs.declared.outcome.Outcome.TheVariants as outcomes
use Rattle.script.specs.Change.{line_change}
use Rattle.script.specs.RunText.{outcome_text}
use Rattle.script.specs.Script.{ScriptParts}

-- a run: the names of its catalogue, how many entries its history may have, the history, the newest entry first, and its watches
-- in the order in which they were opened
pub record RunState : Type 0 where
  pub names : List (List ℕ)
  pub max_entries : ℕ
  pub entries : List Entry
  pub watches : List WatchState

-- a run before its first line
abbrev pub opening : List (List ℕ) → ℕ → RunState
opening names max = record { names = names; max_entries = max; entries = []; watches = [] }

-- a run with these watches in place of its own
abbrev pub with_watches : RunState → List WatchState → RunState
with_watches run watches = record { names = run.names; max_entries = run.max_entries; entries = run.entries; watches = watches }

-- how a run comes out of a change with a reply or a refusal: its history is answered as one that seat 0 asks, and all else stays. It has
-- no store that could refuse an entry
pub record IsChanged (old new : RunState) (call : Option Call) (result : Result Reply Refusal) : Type 0 where
  pub names : new.names ≡ old.names
  pub most : new.max_entries ≡ old.max_entries
  pub watches : new.watches ≡ old.watches
  pub answer : IsAnswered old.max_entries 0 old.entries new.entries call result
  pub unstored : result ≢ Err NotStored

-- a step of the watch with this number: the run after it, and what the watch is shown
pub record IsStepped (run : RunState) (number : ℕ) (after : RunState) (status : Option Serving) : Type 0 where
  pub watch : WatchState
  pub is_there : slice_get run.watches number ≡ Some watch
  pub status_is : status ≡ (stepped (changes_of run.entries) watch).0
  pub after_is : after ≡ with_watches run (slice_set run.watches number (stepped (changes_of run.entries) watch).1)

-- how a run meets a line: the run after it, and what the line comes to
pub data IsLineRun (run : RunState) : Line → RunState → Outcome → Type 0 where
  Changes : (line : Line) (call : Option Call) (after : RunState) (taken : Result Reply Refusal) → line_change run.names line ≡ Some call
      → IsChanged run after call taken → IsLineRun run line after (outcomes.Changed taken)
  Checks : (name : List ℕ) → IsLineRun run (Check name) run (outcomes.Checked (status_map run.names run.entries name))
  Opens : (name : List ℕ) → IsLineRun run (Open name)
      (with_watches run (run.watches ++ opened (changes_of run.entries) (slot_of run.names name) ∷ []))
      (outcomes.Opened (length run.watches) (shown run.entries (slot_of run.names name)))
  Steps : (number : ℕ) (after : RunState) (status : Option Serving) → IsStepped run number after status → IsLineRun run (Step number) after (outcomes.Stepped status)
  Packs : IsLineRun run Board run (outcomes.Board (board_of run.entries))

-- what a run that meets these lines prints: what each comes to, in a line of its own
pub data ScriptRun : RunState → List Line → List ℕ → Type 0 where
  Ends : (run : RunState) → ScriptRun run [] []
  Runs : (run after : RunState) (line : Line) (outcome : Outcome) (lines : List Line) (output : List ℕ) → IsLineRun run line after outcome
      → ScriptRun after lines output → ScriptRun run (line ∷ lines) (outcome_text outcome ++ codes "\n" ++ output)

-- what a run of a script prints
abbrev pub IsScriptRun : ScriptParts → List ℕ → Type 0
IsScriptRun script output = ScriptRun (opening script.names script.max) script.lines output
