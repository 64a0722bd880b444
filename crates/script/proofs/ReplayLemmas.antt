-- A script that is run line by line.
use Rattle.std.proofs.Common.{◌≡◌, ℕ, ◌+◌, ◌≤◌, ◌<◌, List, [], ◌∷◌, ◌++◌, Option, length, drop, get_or, append_assoc, add-one, refl, sym, ap, subst, ◌∙◌, codes}
use Rattle.std.specs.Option.{option_to_list}
use Rattle.std.proofs.lemmas.List.{append-nil, length_push}
use Rattle.std.proofs.Math.ListN.{length-set, drop_of_length-le}
use Rattle.probe_core.specs.declared.rule.Rule.{Rule}
use Rattle.desk_core.specs.declared.call.Call.{Call}
use Rattle.script.specs.declared.line.Line.{Line}
use Rattle.script.specs.declared.line.Line.TheVariants as lines
use Rattle.script.specs.declared.outcome.Outcome.{Outcome}
use Rattle.script.specs.Change.{line_change}
use Rattle.script.specs.Run.{RunState, IsLineRun, IsScriptRun, ScriptRun, opening}
use Rattle.script.specs.Rules.{rule_in, rules_in}
use Rattle.script.proofs.RuleLemmas.{left_is, rules_behind}
use Rattle.script.specs.Run.IsLineRun.{Changes, Checks, Opens, Steps, Packs}
use Rattle.script.specs.Run.ScriptRun.{Ends, Runs}
use Rattle.script.specs.RunText.{outcome_text}
use Rattle.script.specs.Script.{ScriptParts, StepsFollow, watches_after}

-- a run under way: what was printed so far and what the lines that are left print are together what all lines print; and the
-- lines that are left find the watches and the rules that they need
pub record IsRunning (start : RunState) (whole : List Line) (run : RunState) (left : List Line) (rules : List Rule) (printed : List ℕ) : Type 0 where
  pub on : (rest : List ℕ) → ScriptRun run left rest → ScriptRun start whole (printed ++ rest)
  pub steps : StepsFollow (length run.watches) left
  pub rules_are : rules ≡ rules_in left

-- a line that asks for a change opens no watch
change-watches : (names : List (List ℕ)) (line : Line) (call : Option Call) (watches : ℕ) → line_change names line ≡ Option.Some call → watches_after line watches ≡ watches
change-watches names (lines.Register name rule) call watches is = refl
change-watches names (lines.Retire name) call watches is = refl
change-watches names (lines.Order order) call watches is = refl
change-watches names (lines.Check name) call watches is = cc
change-watches names (lines.Open name) call watches is = cc
change-watches names (lines.Step number) call watches is = cc
change-watches names lines.Board call watches is = cc

-- how many watches there are after a line
met-watches : (run after : RunState) (line : Line) (outcome : Outcome) → IsLineRun run line after outcome → length after.watches ≡ watches_after line (length run.watches)
met-watches run after line outcome (Changes own call next taken asked changed) = ap length changed.watches ∙ sym (change-watches run.names own call _ asked)
met-watches run after line outcome (Checks name) = refl
met-watches run after line outcome (Opens name) = length_push run.watches _ ∙ add-one _
met-watches run after line outcome (Steps number next status stepped) = ap (λ r. length r.watches) stepped.after_is ∙ length-set run.watches number _
met-watches run after line outcome Packs = refl

-- a run at the line whose turn it is
pub running-turn : (start run : RunState) (whole items lines : List Line) (i : ℕ) (line : Line) (rules : List Rule) (printed : List ℕ) → items ≡ lines
    → i < length items → line ≡ get_or items i line → IsRunning start whole run (drop i lines) rules printed
    → IsRunning start whole run (line ∷ drop (i + 1) lines) rules printed
running-turn start run whole items lines i line rules printed same below is running =
    subst (λ left. IsRunning start whole run left rules printed) (subst (λ l. drop i l ≡ line ∷ drop (i + 1) l) same (left_is items i line below is)) running

-- a run that met one more line and printed what it came to
pub running-next : (start run after : RunState) (whole lines : List Line) (line : Line) (rules left : List Rule) (printed more : List ℕ)
    (outcome : Outcome) → IsRunning start whole run (line ∷ lines) rules printed → rules ≡ option_to_list (rule_in line) ++ left
    → IsLineRun run line after outcome → more ≡ printed ++ (outcome_text outcome ++ codes "\n") → IsRunning start whole after lines left more
running-next start run after whole lines line rules left printed more outcome running taken met more_is = record {
  on = λ rest later.
      let together : printed ++ (outcome_text outcome ++ codes "\n" ++ rest) ≡ more ++ rest =
      sym (append_assoc printed (outcome_text outcome ++ codes "\n") rest) ∙ ap (λ text. text ++ rest) (sym more_is) in
      subst (λ output. ScriptRun start whole output) together (running.on _ (Runs run after line outcome _ rest met later));
  steps = subst (λ watches. StepsFollow watches lines) (sym (met-watches run after line outcome met)) running.steps.1;
  rules_are = rules_behind line lines rules left running.rules_are taken;
}

-- a run behind its last line
pub running-end : (start run : RunState) (whole items lines : List Line) (i : ℕ) (rules : List Rule) (printed output : List ℕ) → items ≡ lines
    → length items ≤ i → output ≡ printed → IsRunning start whole run (drop i lines) rules printed → ScriptRun start whole output
running-end start run whole items lines i rules printed output same past is running =
    let none : drop i lines ≡ [] = ap (drop i) (sym same) ∙ drop_of_length-le items past in
    let ended = subst (λ left. IsRunning start whole run left rules printed) none running in
    subst (λ text. ScriptRun start whole text) (append-nil printed ∙ sym is) (ended.on [] (Ends run))

-- what a run prints of all lines of a script is what the script comes to
pub script_run : (script : ScriptParts) (run : RunState) (names : List (List ℕ)) (max : ℕ) (items lines : List Line) → run ≡ opening names max → names ≡ script.names
    → max ≡ script.max → items ≡ lines → lines ≡ script.lines → (output : List ℕ) → ScriptRun run items output → IsScriptRun script output
script_run script run names max items lines run_is names_are max_is same lines_are output printed =
    let start : run ≡ opening script.names script.max = run_is ∙ ap (λ n. opening n max) names_are ∙ ap (opening script.names) max_is in
    subst (λ r. ScriptRun r script.lines output) start (subst (λ l. ScriptRun run l output) (same ∙ lines_are) printed)
