-- Lines that a run meets, by their kinds.
use Rattle.std.proofs.Common.{◌≡◌, ℕ, List, ◌∷◌, ◌++◌, [], length, Option, Result, Ok, Err, IfOk, OnOk, sym, subst}
use Rattle.health_wire.specs.declared.serving.Serving.{Serving}
use Rattle.desk_core.specs.Board.{board_of}
use Rattle.desk_core.specs.Catalogue.{slot_of}
use Rattle.desk_core.specs.Changes.{changes_of}
use Rattle.desk_core.specs.Status.{status_map, shown}
use Rattle.desk_core.specs.Watch.{opened}
use Rattle.script.specs.declared.line.Line.{Line}
use Rattle.script.specs.declared.line.Line.TheVariants.{Check, Open, Board}
use Rattle.script.specs.declared.outcome.Outcome.{Outcome}
use Rattle.script.specs.declared.outcome.Outcome.TheVariants as outcomes
use Rattle.script.specs.Run.{RunState, with_watches, IsLineRun}
use Rattle.script.specs.Run.IsLineRun.{Checks, Opens, Packs}

-- a line that is of a kind, met as one of that kind
pub of_kind : (run after : RunState) (line kind : Line) (outcome : Outcome) → line ≡ kind → IsLineRun run kind after outcome → IsLineRun run line after outcome
of_kind run after line kind outcome is met = subst (λ l. IsLineRun run l after outcome) (sym is) met

-- a check, by its status
pub checks : (run : RunState) (line : Line) (name : List ℕ) (status : Option Serving) → line ≡ Check name
    → status ≡ status_map run.names run.entries name → IsLineRun run line run (outcomes.Checked status)
checks run line name status is status_is = rw (is, status_is) (Checks name)

-- an opened watch, by its place and what it shows
opens : (run after : RunState) (name : List ℕ) (slot : Option ℕ) (outcome : Outcome) → slot ≡ slot_of run.names name
    → after ≡ with_watches run (run.watches ++ opened (changes_of run.entries) slot ∷ [])
    → outcome ≡ outcomes.Opened (length run.watches) (shown run.entries slot) → IsLineRun run (Open name) after outcome
opens run after name slot outcome is after_is outcome_is = rw (outcome_is, after_is, is) (Opens name)

-- a line that opens a watch, where there is memory for it
pub opens_ok : {E : Type 0} (run after : RunState) (line : Line) (name : List ℕ) (slot : Option ℕ) (result : Result Outcome E) → line ≡ Open name
    → slot ≡ slot_of run.names name → OnOk result (after ≡ with_watches run (run.watches ++ opened (changes_of run.entries) slot ∷ []))
    → IfOk result (λ outcome. outcome ≡ outcomes.Opened (length run.watches) (shown run.entries slot))
    → IfOk result (λ outcome. IsLineRun run line after outcome)
opens_ok run after line name slot (Ok outcome) is slot_is after_is outcome_is = of_kind _ _ _ _ _ is (opens run after name slot outcome slot_is after_is outcome_is)
opens_ok run after line name slot (Err e) is slot_is after_is outcome_is = tt

-- a board, by its word
pub packs : (run : RunState) (line : Line) (word : ℕ) → line ≡ Board → word ≡ board_of run.entries → IsLineRun run line run (outcomes.Board word)
packs run line word is word_is = rw (is, word_is) Packs
