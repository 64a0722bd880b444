-- How the command `run` sets its hall up over a journal in a file. Journals have their oldest entry first.
use Rattle.std.specs.Prelude.{ℕ, ◌≡◌, List, max, length, Result}
use Rattle.std.specs.List.{All}
use Rattle.desk_core.specs.declared.entry.Entry.{Entry}
use Rattle.desk_core.specs.declared.refusal.Refusal.{Refusal}
use Rattle.desk_core.specs.declared.reply.Reply.{Reply}
use Rattle.durable.specs.Journal.{FirstHasSeen}
use Rattle.hall.specs.CarriedOut.{replied}
use Rattle.live_run.specs.RefusedLine.{IsMade}
use Rattle.script.specs.Change.{line_changes}
use Rattle.script.specs.declared.script.Mode.TheVariants.{Run}
use Rattle.script.specs.Script.{ScriptParts, IsScript}
use Rattle.server.specs.Again.{changes_of}
use Rattle.server.specs.Setup.{SetUpState}
use Rattle.running.specs.Run.{IsWhollySetUp}

-- the bytes are a script to run, each of whose changes is made in a registry of its own, and these are its entries
pub record IsSetupOf (bytes : List ℕ) (entries : List Entry) : Type 0 where
  pub script : ScriptParts
  pub is : IsScript Run bytes script
  pub results : List (Result Reply Refusal)
  pub changes : All IsMade results
  pub entries_are : entries ≡ replied 0 (line_changes script.names script.lines) results

-- the bytes are a script to run, which has these names and asks for at most so many entries
pub record IsCatalogueOf (bytes : List ℕ) (names : List (List ℕ)) (most : ℕ) : Type 0 where
  pub script : ScriptParts
  pub is : IsScript Run bytes script
  pub names_are : names ≡ script.names
  pub most_is : most ≡ script.max

-- The bytes are a script to run, and the hall has its names, so many seats, and the entries of a journal, which its first seat alone has
-- made: it has seen these and no others. It may have the script's most entries, or as many as the journal has
pub record IsJournaled (bytes : List ℕ) (seats : ℕ) (made : SetUpState) : Type 0 where
  pub script : ScriptParts
  pub is : IsScript Run bytes script
  pub journal : List Entry
  pub names : made.hall.names ≡ script.names
  pub most : made.hall.most ≡ max script.max (length journal)
  pub seats_are : made.hall.seats ≡ seats
  pub whole : IsWhollySetUp (changes_of journal) made
  pub seen : FirstHasSeen made.seats journal
