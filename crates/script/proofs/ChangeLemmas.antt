-- The changes that lines ask for.
use Rattle.std.proofs.Common.{◌≡◌, ◌≢◌, ℕ, List, ◌∷◌, map, Option, Some, Result, false, refl, sym, ap, subst, ◌∙◌}
use Rattle.desk_core.specs.declared.call.Call.{Call}
use Rattle.desk_core.specs.declared.refusal.Refusal.{Refusal}
use Rattle.desk_core.specs.declared.reply.Reply.{Reply}
use Rattle.desk_core.specs.Desk.{State, HasAnswered}
use Rattle.desk_core.specs.Past.{past}
use Rattle.desk_core.specs.Watch.{WatchState}
use Rattle.script.specs.declared.line.Line.{Line}
use Rattle.script.specs.declared.line.Line.TheVariants.{Register, Retire, Order, Check, Open, Step, Board}
use Rattle.script.specs.declared.script.Mode.{Mode}
use Rattle.script.specs.declared.script.Mode.TheVariants.{Replay, Serve, Run}
use Rattle.script.specs.Change.{line_change, line_changes}
use Rattle.script.specs.Run.{RunState, IsChanged}
use Rattle.script.specs.Script.{ScriptParts, watches_after, IsChange, IsAllowed, TakesLines, IsScript}
use Rattle.script.specs.Script.TakesLines.{AtEnd, AtGo, NextLine}

-- what a line was found to ask for over the names that were seen
pub asked : (names seen : List (List ℕ)) (line : Line) (found wanted : Option (Option Call)) → seen ≡ names → found ≡ line_change seen line → found ≡ wanted → line_change names line ≡ wanted
asked names seen line found wanted same is was = ap (λ own. line_change own line) (sym same) ∙ (sym is ∙ was)

-- the changes of these lines stand in the places of the lines
abbrev StandInPlace : List (List ℕ) → List Line → Type 0
StandInPlace names lines = map (λ (call : Option Call). Some call) (line_changes names lines) ≡ map (line_change names) lines

one_more : (first : Option Call) (calls : List (Option Call)) (found : List (Option (Option Call))) → map (λ (call : Option Call). Some call) calls ≡ found
    → map (λ (call : Option Call). Some call) (first ∷ calls) ≡ Some first ∷ found
one_more first calls found behind = ap (λ (all : List (Option (Option Call))). Some first ∷ all) behind

-- and so they do with one line more in front
in_front : (names : List (List ℕ)) (line : Line) (lines : List Line) → IsChange line → StandInPlace names lines → StandInPlace names (line ∷ lines)
in_front names (Register name rule) lines is behind = one_more _ (line_changes names lines) (map (line_change names) lines) behind
in_front names (Retire name) lines is behind = one_more _ (line_changes names lines) (map (line_change names) lines) behind
in_front names (Order order) lines is behind = one_more _ (line_changes names lines) (map (line_change names) lines) behind
in_front names (Check name) lines is behind = absurd is
in_front names (Open name) lines is behind = absurd is
in_front names (Step k) lines is behind = absurd is
in_front names Board lines is behind = absurd is

-- where a line is allowed and no script is replayed, it is a change
is_change : (mode : Mode) (watches : ℕ) (line : Line) → mode ≢ Replay → IsAllowed mode watches line → IsChange line
is_change Replay watches line other allowed = absurd (other refl)
is_change Serve watches line other allowed = allowed
is_change Run watches line other allowed = allowed

in_place : (mode : Mode) (names : List (List ℕ)) (watches : ℕ) (body : List (ℕ × List ℕ)) (lines : List Line) (rest : List (ℕ × List ℕ)) → mode ≢ Replay → TakesLines mode names watches body lines rest
    → StandInPlace names lines
in_place mode names watches body lines rest other (AtEnd w) = refl
in_place mode names watches body lines rest other (AtGo w number text behind is) = refl
in_place mode names watches body lines rest other (NextLine w number text line others behind more is takes) =
    in_front names line more (is_change mode w line other is.allowed) (in_place mode names (watches_after line w) others more behind other takes)

pub changes_in_place : (mode : Mode) (bytes : List ℕ) (script : ScriptParts) → mode ≢ Replay → IsScript mode bytes script → StandInPlace script.names script.lines
changes_in_place mode bytes script other is = in_place mode script.names 0 is.body.lines script.lines is.behind_go other is.lines

-- a run whose desk answered is changed
pub run_changed : (old : RunState) (desk after : State) (names : List (List ℕ)) (watches : List WatchState) (call : Option Call) (asked : Call) (result given : Result Reply Refusal)
    → record { names = names; max_entries = desk.max_entries; entries = past desk.journal; watches = watches } ≡ old → call ≡ Some asked
    → HasAnswered desk after 0 asked given → result ≡ given → desk.is_stored ≡ false
    → IsChanged old (record { names = names; max_entries = after.max_entries; entries = past after.journal; watches = watches }) call result
run_changed old desk after names watches call asked result given view called answered is unstored =
    let new : RunState = record { names = names; max_entries = after.max_entries; entries = past after.journal; watches = watches } in
    let before : RunState = record { names = names; max_entries = desk.max_entries; entries = past desk.journal; watches = watches } in
    let changed : IsChanged before new (Some asked) given = record {
      names = refl;
      most = answered.most;
      watches = refl;
      answer = answered.answer;
      unstored = answered.stored.unstored unstored;
    } in
    rw (called, is) (subst (λ run. IsChanged run new (Some asked) given) view changed)
