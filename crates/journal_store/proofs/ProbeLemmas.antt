-- What one entry makes of the probe of each slot.
use Rattle.std.proofs.Common.{◌≡◌, ℕ, ◌==◌, ◌&&◌, not, cond, if◌then◌else◌, Bool, true, false, Option, None, Some, unwrap_or, List, [], ◌∷◌, refl, sym, ap}
use Rattle.std.specs.Option.{option_map, option_or}
use Rattle.probe_core.specs.declared.event.Event.{Event}
use Rattle.probe_core.specs.declared.rule.Rule.{Rule}
use Rattle.probe_core.specs.Rule.{HasCounts, fits, counted, count_next, memory_next, opening_memory}
use Rattle.probe_core.specs.Events.{memory_after}
use Rattle.probe_core.proofs.EventLemmas.{memory_opens, memory_more}
use Rattle.desk_core.specs.declared.call.Call.{Call}
use Rattle.desk_core.specs.declared.call.Call.TheVariants.{Register, Retire, Observe, Set, Shutdown, Resume}
use Rattle.desk_core.specs.declared.entry.Entry.{Entry}
use Rattle.desk_core.specs.Past.{last_said}
use Rattle.desk_core.specs.Present.{rule_at, says_rule}
use Rattle.desk_core.specs.Shut.{is_shut}
use Rattle.desk_core.specs.Heard.{heard, with_event, forgets, event_for, event_of_finding, event_of_setting}
use Rattle.desk_core.specs.Legal.{IsLegal}
use Rattle.desk_core.specs.Slots.{noted, was_reset}
use Rattle.desk_core.specs.Desk.{probe_at}
use Rattle.desk_core.proofs.LawfulLemmas.{rule_counts}
use Rattle.journal_store.specs.Next.{probe_next}

-- an event for the slot is heard where the server is not shut down
event_step : (here shut : Bool) (event : Event) (older : List Entry) (i : ℕ) → IsLegal older
    → option_map (λ rule. (rule, memory_after rule (with_event rule shut (if here then Some event else None) (heard older i rule)))) (rule_at older i)
    ≡ (if here && not shut then noted event (probe_at older i) else probe_at older i)
event_step false shut event older i legal = refl
event_step true true event older i legal = refl
event_step true false event older i legal = by_rule (rule_at older i) refl
  where
    by_fit : (rule : Rule) (fit : Bool) → HasCounts rule → fits rule event ≡ fit
        → memory_after rule (if fit then event ∷ heard older i rule else heard older i rule) ≡ memory_next rule event (memory_after rule (heard older i rule))
    by_fit rule true counts is = memory_more rule event (heard older i rule) counts is
    by_fit rule false counts is =
        let memory = memory_after rule (heard older i rule) in
        ap (λ b. cond b (count_next rule event (counted rule memory)) memory) (sym is)

    by_rule : (o : Option Rule) → rule_at older i ≡ o
        → option_map (λ rule. (rule, memory_after rule (if fits rule event then event ∷ heard older i rule else heard older i rule))) o
        ≡ noted event (option_map (λ rule. (rule, memory_after rule (heard older i rule))) o)
    by_rule None is = refl
    by_rule (Some rule) is = ap (λ m. Some (rule, m)) (by_fit rule (fits rule event) (rule_counts older i rule legal is) refl)

call_step : (call : Call) (older : List Entry) (i : ℕ) → IsLegal older
    → option_map (λ rule. (rule, memory_after rule (if forgets i call then [] else with_event rule (is_shut older) (event_for i call) (heard older i rule))))
    (unwrap_or (option_or (says_rule i call) (last_said (says_rule i) older)) None)
    ≡ probe_next (is_shut older) i call (probe_at older i)
call_step (Register slot rule) older i legal = by_test (slot == i)
  where
    by_test : (b : Bool) → option_map (λ r. (r, memory_after r (if b then [] else heard older i r)))
        (unwrap_or (option_or (if b then Some (Some rule) else None) (last_said (says_rule i) older)) None)
        ≡ (if b then Some (rule, opening_memory rule) else probe_at older i)
    by_test true = ap (λ m. Some (rule, m)) (memory_opens rule)
    by_test false = refl
call_step (Retire slot) older i legal = by_test (slot == i)
  where
    by_test : (b : Bool) → option_map (λ r. (r, memory_after r (heard older i r)))
        (unwrap_or (option_or (if b then Some None else None) (last_said (says_rule i) older)) None) ≡ (if b then None else probe_at older i)
    by_test true = refl
    by_test false = refl
call_step (Observe slot finding) older i legal = event_step (slot == i) (is_shut older) (event_of_finding finding) older i legal
call_step (Set slot setting) older i legal = event_step (slot == i) (is_shut older) (event_of_setting setting) older i legal
call_step Shutdown older i legal = refl
call_step Resume older i legal = by_rule (rule_at older i)
  where
    by_rule : (o : Option Rule) → option_map (λ r. (r, memory_after r [])) o ≡ was_reset (option_map (λ r. (r, memory_after r (heard older i r))) o)
    by_rule None = refl
    by_rule (Some rule) = ap (λ m. Some (rule, m)) (memory_opens rule)

-- the probe of a slot after one more entry
pub probe_step : (entry : Entry) (older : List Entry) (i : ℕ) → IsLegal older → probe_at (entry ∷ older) i ≡ probe_next (is_shut older) i entry.call (probe_at older i)
probe_step entry older i legal = call_step entry.call older i legal
