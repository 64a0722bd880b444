-- How the command `run` sets its hall up, and how much its loops may hold.
use Rattle.std.specs.Prelude.{ℕ, ◌≡◌, List, [], length, string_bytes, Option, Result, Ok, Err}
use Rattle.std.specs.List.{All}
use Rattle.desk_core.specs.declared.call.Call.{Call}
use Rattle.desk_core.specs.declared.entry.Entry.{Entry}
use Rattle.desk_core.specs.declared.refusal.Refusal.{Refusal}
use Rattle.desk_core.specs.declared.reply.Reply.{Reply}
use Rattle.desk_core.specs.Mutation.{AreAnswered, IsAnswered}
use Rattle.hall.specs.Seats.{new_seats}
use Rattle.script.specs.Change.{line_changes}
use Rattle.script.specs.declared.script.Mode.TheVariants.{Run}
use Rattle.script.specs.Explanation.{IsExplanation}
use Rattle.script.specs.Script.{ScriptParts, IsScript, IsScriptFault}
use Rattle.server.specs.Setup.{SetUpState, AreSetUp}
use Rattle.live_server.specs.Loop.{EventServer}
use Rattle.live_server.specs.declared.places.ServerLimits.{ServerLimits}
use Rattle.live_server.specs.Loop.{empty_table, held_by}
use Rattle.live_run.specs.declared.refused_line.RefusedLine.{RefusedLine}
use Rattle.live_run.specs.RefusedLine.{IsFirstRefused, IsMade}
use Rattle.running.specs.declared.bounds.Bounds.{Bounds}
use Rattle.running.specs.declared.run_failure.RunFailure.{RunFailure}
use Rattle.running.specs.declared.run_failure.RunFailure.TheVariants.{Read, Script, Refused, Bind, Journal, TooFewFiles, HandedOver, EventLoop, TooFewThreads, Write, OutOfMemory}

-- a change got a reply
abbrev pub HasReply : Result Reply Refusal → Type 0
HasReply (Ok reply) = Unit {0}
HasReply (Err refusal) = ⊥

-- a hall whose first seat alone has made changes: these, each of which got a reply
pub record IsWhollySetUp (calls : List (Option Call)) (made : SetUpState) : Type 0 where
  pub set_up : AreSetUp calls made.results (new_seats made.hall.table made.hall.most made.hall.seats) made.seats
  pub replies : All HasReply made.results
  pub all : length made.seats ≡ made.hall.seats

-- the bytes are a script to run, and the hall has its names, may have its most entries, has so many seats, and is set up by its lines, each of
-- whose changes was made as it was asked for
pub record IsSetUpBy (bytes : List ℕ) (seats : ℕ) (made : SetUpState) : Type 0 where
  pub script : ScriptParts
  pub is : IsScript Run bytes script
  pub names : made.hall.names ≡ script.names
  pub most : made.hall.most ≡ script.max
  pub seats_are : made.hall.seats ≡ seats
  pub whole : IsWhollySetUp (line_changes script.names script.lines) made
  pub changes : All IsMade made.results

-- a registry whose history may have so many entries comes to these results where one thread makes these changes, one after the other,
-- from the empty history on
pub record AreMadeAlone (most : ℕ) (calls : List (Option Call)) (results : List (Result Reply Refusal)) : Type 0 where
  pub history : List Entry
  pub made : AreAnswered (IsAnswered most 0) [] history calls results

-- the bytes are a script to run, and in a registry of its own this is its first line whose change is not made
pub record IsRefusedLine (bytes : List ℕ) (line : RefusedLine) : Type 0 where
  pub script : ScriptParts
  pub is : IsScript Run bytes script
  pub results : List (Result Reply Refusal)
  pub alone : AreMadeAlone script.max (line_changes script.names script.lines) results
  pub first : IsFirstRefused script.numbers results line

-- a failure of the setup: the first fault of the bytes as a script, with what is said of it, the first line that is refused, or out of
-- memory
abbrev pub EndsSetUp : List ℕ → RunFailure → Type 0
EndsSetUp bytes (Read source cause) = ⊥
EndsSetUp bytes (Script fault text) = IsScriptFault Run bytes fault × IsExplanation bytes fault (string_bytes text)
EndsSetUp bytes (Refused line) = IsRefusedLine bytes line
EndsSetUp bytes (Bind addr cause) = ⊥
EndsSetUp bytes (Journal path cause) = ⊥
EndsSetUp bytes TooFewFiles = ⊥
EndsSetUp bytes TooFewThreads = ⊥
EndsSetUp bytes (HandedOver descriptor) = ⊥
EndsSetUp bytes (EventLoop cause) = ⊥
EndsSetUp bytes (Write cause) = ⊥
EndsSetUp bytes OutOfMemory = Unit {0}

-- how much the loops of a run hold together
abbrev pub limits_in : Bounds → ServerLimits
limits_in bounds = record { connections = bounds.connections; watches = bounds.watches }

-- each of these loops holds no connection yet, and may hold so much
abbrev pub AreLoopsOf : ServerLimits → List EventServer → Type 0
AreLoopsOf limits servers = All (λ server. held_by server ≡ empty_table limits) servers
