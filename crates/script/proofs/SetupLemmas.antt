-- The changes that lines ask for, made one after the other.
use Rattle.std.proofs.Common.{◌≡◌, ℕ, ◌+◌, ◌<◌, ◌≤◌, List, [], ◌∷◌, ◌++◌, length, drop, get_or, append_assoc, sym, ap, subst, ◌∙◌}
use Rattle.std.specs.Prelude.{if◌then◌else◌, Option, Some, None, Result, Ok}
use Rattle.std.specs.Result.{is_ok}
use Rattle.std.specs.Option.{option_to_list}
use Rattle.std.proofs.Math.ListN.{drop_of_length-le}
use Rattle.std.proofs.lemmas.List.{append-nil}
use Rattle.probe_core.specs.declared.rule.Rule.{Rule}
use Rattle.desk_core.specs.declared.call.Call.{Call}
use Rattle.desk_core.specs.declared.refusal.Refusal.{Refusal}
use Rattle.desk_core.specs.declared.reply.Reply.{Reply}
use Rattle.desk_core.specs.Mutation.{AreAnswered}
use Rattle.desk_core.specs.Mutation.AreAnswered.{Ends, Then}
use Rattle.script.specs.declared.line.Line.{Line}
use Rattle.script.specs.Change.{line_change, line_changes}
use Rattle.script.specs.Rules.{rule_in, rules_in}
use Rattle.script.proofs.RuleLemmas.{left_is, rules_behind}

-- what a list has where its push succeeded
pub put_in : {T E X : Type 0} (result : Result T E) (value : T) (new more old : X) → result ≡ Ok value → new ≡ (if is_ok result then more else old) → new ≡ more
put_in result value new more old is was = was ∙ ap (λ r. if is_ok r then more else old) is

-- lines of which some are left: what was made so far and what the others ask for is together what all ask for, and there are rules for
-- those that register a service
pub record IsSettingUp {S : Type 0} (answers : S → S → Option Call → Result Reply Refusal → Type 0) (names : List (List ℕ)) (old : S) (whole : List (Option Call))
    (now : S) (left : List Line) (rules : List Rule) (results : List (Result Reply Refusal)) : Type 0 where
  pub on : (new : S) (more : List (Result Reply Refusal)) → AreAnswered answers now new (line_changes names left) more → AreAnswered answers old new whole (results ++ more)
  pub rules_are : rules ≡ rules_in left

-- at the line whose turn it is
pub setting-turn : {S : Type 0} (answers : S → S → Option Call → Result Reply Refusal → Type 0) (names : List (List ℕ)) (old : S) (whole : List (Option Call)) (now : S)
    (lines : List Line) (i : ℕ) (line : Line) (rules : List Rule) (results : List (Result Reply Refusal)) → i < length lines → line ≡ get_or lines i line
    → IsSettingUp answers names old whole now (drop i lines) rules results → IsSettingUp answers names old whole now (line ∷ drop (i + 1) lines) rules results
setting-turn answers names old whole now lines i line rules results below is setting =
    subst (λ left. IsSettingUp answers names old whole now left rules results) (left_is lines i line below is) setting

-- behind a line that asks for no change
pub setting-passes : {S : Type 0} (answers : S → S → Option Call → Result Reply Refusal → Type 0) (names : List (List ℕ)) (old : S) (whole : List (Option Call)) (now : S)
    (left : List Line) (line : Line) (rules after : List Rule) (results : List (Result Reply Refusal)) → IsSettingUp answers names old whole now (line ∷ left) rules results
    → rules ≡ option_to_list (rule_in line) ++ after → line_change names line ≡ None → IsSettingUp answers names old whole now left after results
setting-passes answers names old whole now left line rules after results setting taken none = record {
  on = λ new more answered. setting.on new more (rw none answered);
  rules_are = rules_behind line left rules after setting.rules_are taken;
}

-- behind a line that asks for a change
pub setting-meets : {S : Type 0} (answers : S → S → Option Call → Result Reply Refusal → Type 0) (names : List (List ℕ)) (old : S) (whole : List (Option Call)) (now new : S)
    (left : List Line) (line : Line) (rules after : List Rule) (results more : List (Result Reply Refusal)) (call : Option Call) (result : Result Reply Refusal)
    → IsSettingUp answers names old whole now (line ∷ left) rules results → rules ≡ option_to_list (rule_in line) ++ after → line_change names line ≡ Some call
    → answers now new call result → more ≡ results ++ result ∷ [] → IsSettingUp answers names old whole new left after more
setting-meets answers names old whole now new left line rules after results more call result setting taken some met pushed = rw pushed record {
  on = λ last rest answered.
      rw (append_assoc results (result ∷ []) rest) (setting.on last (result ∷ rest) (rw some (Then now new last call result (line_changes names left) rest met answered)));
  rules_are = rules_behind line left rules after setting.rules_are taken;
}

-- behind the last line
pub setting-end : {S : Type 0} (answers : S → S → Option Call → Result Reply Refusal → Type 0) (names : List (List ℕ)) (old : S) (whole : List (Option Call)) (now : S)
    (lines : List Line) (i : ℕ) (rules : List Rule) (results : List (Result Reply Refusal)) → length lines ≤ i
    → IsSettingUp answers names old whole now (drop i lines) rules results → AreAnswered answers old now whole results
setting-end answers names old whole now lines i rules results past setting =
    let ended = subst (λ left. IsSettingUp answers names old whole now left rules results) (drop_of_length-le lines past) setting in
    rw (sym (append-nil results)) (ended.on now [] (Ends now))
