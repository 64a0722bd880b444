-- Which entry a reason names: one of the history that did what the reason says, and that none undid since.
use Rattle.std.specs.Prelude.{◌≡◌, ℕ, ◌==◌, ◌&&◌, is_some, Bool, true, false, Option, None, Some, List, ◌∷◌, ◌++◌, length}
use Rattle.std.specs.List.{list_any}
use Rattle.probe_core.specs.declared.rule.Rule.{Rule}
use Rattle.desk_core.specs.declared.call.Call.{Call}
use Rattle.desk_core.specs.declared.call.Call.TheVariants.{Register, Retire, Observe, Set, Shutdown, Resume}
use Rattle.desk_core.specs.declared.entry.Entry.{Entry}
use Rattle.desk_core.specs.declared.reason.Cause.{Cause}
use Rattle.desk_core.specs.declared.reason.Reason.{Reason}
use Rattle.desk_core.specs.declared.reason.Reason.TheVariants as reasons
use Rattle.desk_core.specs.Heard.{event_for, forgets}
use Rattle.desk_core.specs.Present.{rule_at}
use Rattle.desk_core.specs.Reason.{forgets_all, named, newest, retires, shuts, takes_down}
use Rattle.desk_core.specs.Silence.{is_done}

-- A cause names the newest entry of this kind in the history, by its place, which is how many entries stand before it, and by whether
-- it is kept; none of the entries after it undid it
pub record IsNamed (kept : Option ℕ) (entries : List Entry) (kind : Entry → List Entry → Bool) (undoes : Entry → Bool) (cause : Cause) : Type 0 where
  pub newer : List Entry
  pub entry : Entry
  pub older : List Entry
  pub parts : entries ≡ newer ++ entry ∷ older
  pub of_kind : kind entry older ≡ true
  pub is_newest : newest kind entries ≡ Some (length older)
  pub stands : list_any undoes newer ≡ false
  pub cause_is : cause ≡ named kept entries (Some (length older))

-- a call resumes the server
abbrev pub resumes : Call → Bool
resumes (Register slot rule) = false
resumes (Retire slot) = false
resumes (Observe slot finding) = false
resumes (Set slot setting) = false
resumes Shutdown = false
resumes Resume = true

-- a call registers a slot
abbrev pub registers : ℕ → Call → Bool
registers i (Register slot rule) = slot == i
registers i (Retire slot) = false
registers i (Observe slot finding) = false
registers i (Set slot setting) = false
registers i Shutdown = false
registers i Resume = false

-- a slot heard the event that the entry brought it
abbrev pub is_heard : ℕ → Entry → Bool
is_heard i entry = is_some (event_for i entry.call) && is_done entry.reply

-- the entry took a slot down that now has this rule, or none
abbrev pub took_down : Option Rule → ℕ → Entry → List Entry → Bool
took_down None i entry older = false
took_down (Some rule) i entry older = takes_down rule i entry older

-- The entry took slot i down by the rule that it now has, and the slot forgot nothing since
abbrev pub TookDown : Option ℕ → List Entry → ℕ → Cause → Type 0
TookDown kept entries i cause = IsNamed kept entries (took_down (rule_at entries i) i) (λ entry. forgets i entry.call) cause

-- Wherever a reason for the status of slot i has a cause, it names an entry that did what the reason says. It shut the server down,
-- which was not resumed since; took the slot down; had the slot forget what it heard, and it heard nothing since; or retired the slot,
-- which was not registered since
abbrev pub NamesEntries : Option ℕ → List Entry → ℕ → Reason → Type 0
NamesEntries kept entries i reasons.Serving = Unit {0}
NamesEntries kept entries i (reasons.ShutDown cause) = IsNamed kept entries shuts (λ entry. resumes entry.call) cause
NamesEntries kept entries i (reasons.DependsOn slot) = Unit {0}
NamesEntries kept entries i (reasons.Failed fails cause passes rise) = TookDown kept entries i cause
NamesEntries kept entries i (reasons.SetDown cause) = TookDown kept entries i cause
NamesEntries kept entries i (reasons.Unheard cause) = IsNamed kept entries (forgets_all i) (is_heard i) cause
NamesEntries kept entries i (reasons.Retired cause) = IsNamed kept entries (retires i) (λ entry. registers i entry.call) cause
NamesEntries kept entries i reasons.NeverRegistered = Unit {0}
