-- The numbers of a script's lines beside what came of them.
use Rattle.std.proofs.Common.{◌≡◌, ◌≢◌, ℕ, suc, List, map, length, refl, ap, arith}
use Rattle.std.specs.Prelude.{Option, Some, Result}
use Rattle.std.proofs.lemmas.List.{length-map}
use Rattle.desk_core.specs.declared.call.Call.{Call}
use Rattle.desk_core.specs.declared.refusal.Refusal.{Refusal}
use Rattle.desk_core.specs.declared.reply.Reply.{Reply}
use Rattle.desk_core.specs.Mutation.{AreAnswered, Ends, Then}
use Rattle.hall.specs.Seats.{SeatState, IsCarriedOut}
use Rattle.script.specs.Change.{line_change, line_changes}
use Rattle.script.specs.declared.line.Line.{Line}
use Rattle.script.specs.declared.script.Mode.{Mode}
use Rattle.script.specs.declared.script.Mode.TheVariants.{Replay}
use Rattle.script.specs.TextLines.{first_numbers}
use Rattle.script.specs.Script.{ScriptParts, TakesLines, IsScript, watches_after}
use Rattle.script.specs.Script.TakesLines.{AtEnd, AtGo, NextLine}
use Rattle.script.proofs.ChangeLemmas.{changes_in_place}
use Rattle.server.specs.Setup.{AreSetUp}

-- each line has its number
numbered : (mode : Mode) (names : List (List ℕ)) (watches : ℕ) (body rest : List (ℕ × List ℕ)) (lines : List Line) → TakesLines mode names watches body lines rest
    → length (first_numbers (length lines) body) ≡ length lines
numbered mode names watches body rest lines (AtEnd w) = refl
numbered mode names watches body rest lines (AtGo w number text behind is) = refl
numbered mode names watches body rest lines (NextLine w number text line others behind more is takes) =
    ap suc (numbered mode names (watches_after line w) others behind more takes)

-- each change has its result
answered : (old new : SeatState) (calls : List (Option Call)) (results : List (Result Reply Refusal)) → AreAnswered IsCarriedOut old new calls results → length calls ≡ length results
answered old new calls results (Ends seat) = refl
answered old new calls results (Then old' between new' call result calls' results' met rest) = ap suc (answered between new calls' results' rest)

-- so each number has its result
pub results_in_place : (mode : Mode) (bytes : List ℕ) (script : ScriptParts) (results : List (Result Reply Refusal)) (dealt seats : List SeatState) → mode ≢ Replay → IsScript mode bytes script
    → AreSetUp (line_changes script.names script.lines) results dealt seats → length script.numbers ≡ length results
results_in_place mode bytes script results dealt seats other is set =
    let calls : List (Option Call) = line_changes script.names script.lines in
    let place : map (λ (call : Option Call). Some call) calls ≡ map (line_change script.names) script.lines = changes_in_place mode bytes script other is in
    omega (
      arith,
      ap length is.numbers,
      numbered mode script.names 0 is.body.lines is.behind_go script.lines is.lines,
      ap length place,
      length-map calls (λ (call : Option Call). Some call),
      length-map script.lines (line_change script.names),
      answered _ _ calls results (set.met set.first).done,
    )
