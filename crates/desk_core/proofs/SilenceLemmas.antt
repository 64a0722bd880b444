-- Whether a fail is to be made, by what a desk keeps.
use Rattle.std.proofs.Common.{◌≡◌, ℕ, ◌<◌, ◌&&◌, not, Bool, true, false, Option, None, Some, List, length, drop, get_or, refl, sym, ap, ◌∙◌}
use Rattle.std.specs.Prelude.{nat_le}
use Rattle.std.specs.List.{list_any}
use Rattle.std.specs.Option.{option_map}
use Rattle.std.proofs.lemmas.Bool.{leb-false}
use Rattle.std.proofs.lemmas.List.{length-reverse, reverse-reverse}
use Rattle.probe_core.specs.declared.rule.Rule.{Rule}
use Rattle.probe_core.specs.Rule.{HasCounts}
use Rattle.probe_core.specs.Events.{memory_after}
use Rattle.desk_core.specs.declared.entry.Entry.{Entry}
use Rattle.desk_core.specs.Heard.{heard}
use Rattle.desk_core.specs.Legal.{IsLegal}
use Rattle.desk_core.specs.Past.{past}
use Rattle.desk_core.specs.Present.{rule_at}
use Rattle.desk_core.specs.Shut.{is_shut}
use Rattle.desk_core.specs.Desk.{Keeps, probe_at}
use Rattle.desk_core.specs.Silence.{falls_at, is_to_fail, is_unheard, may_fall, retimes}
use Rattle.desk_core.proofs.LawfulLemmas.{rule_counts}
use Rattle.tail.specs.Tail.{forgotten}

-- the answer of a slot's probe, where its rule counts to at least one
pub falls_so : (entries : List Entry) (i : ℕ) (b : Bool) → IsLegal entries
    → ((state : Rule × ℕ) → probe_at entries i ≡ Some state → HasCounts state.0 → b ≡ falls_at state.0 state.1)
    → (probe_at entries i ≡ None → b ≡ false) → b ≡ may_fall (probe_at entries i)
falls_so entries i b legal some none = by_rule (rule_at entries i) refl
  where
    state_of : Option Rule → Option (Rule × ℕ)
    state_of o = option_map (λ rule. (rule, memory_after rule (heard entries i rule))) o

    by_rule : (o : Option Rule) → rule_at entries i ≡ o → b ≡ may_fall (probe_at entries i)
    by_rule None is = let at : probe_at entries i ≡ None = ap state_of is in none at ∙ sym (ap may_fall at)
    by_rule (Some rule) is =
        let at : probe_at entries i ≡ Some (rule, memory_after rule (heard entries i rule)) = ap state_of is in
        some (rule, memory_after rule (heard entries i rule)) at (rule_counts entries i rule legal is) ∙ sym (ap may_fall at)

not_less : (a b : ℕ) → ¬ (b < a) → nat_le a b ≡ true
not_less a b never = by_test (nat_le a b) refl
  where
    by_test : (c : Bool) → nat_le a b ≡ c → c ≡ true
    by_test true is = refl
    by_test false is = absurd (never (leb-false a b is))

-- where the place is kept, a fail is to be made if nothing was heard since, nothing is shut down, and it would change what is counted
pub fails_so : (kept : Option ℕ) (seat i from : ℕ) (slots : List (Option (Rule × ℕ))) (shut : Bool) (journal : List Entry) (max_entries : ℕ) (b : Bool)
    → Keeps slots shut journal max_entries → i < 16 → ¬ (from < forgotten kept (length journal))
    → ((state : Rule × ℕ) → get_or slots i None ≡ Some state → HasCounts state.0 → b ≡ falls_at state.0 state.1)
    → (get_or slots i None ≡ None → b ≡ false)
    → (not (list_any (λ entry. retimes seat i entry) (drop from journal)) && (not shut && b)) ≡ is_to_fail kept seat i from (past journal)
fails_so kept seat i from slots shut journal max_entries b keeps few there some none =
    let at : get_or slots i None ≡ probe_at (past journal) i = keeps.each i few in
    let answer : b ≡ may_fall (probe_at (past journal) i) =
    falls_so (past journal) i b keeps.legal (λ state is. some state (at ∙ is)) (λ is. none (at ∙ is)) in
    let within : nat_le (forgotten kept (length (past journal))) from ≡ true =
    ap (λ n. nat_le (forgotten kept n) from) (length-reverse journal) ∙ not_less (forgotten kept (length journal)) from there in
    let unheard : is_unheard seat i from (past journal) ≡ not (list_any (λ entry. retimes seat i entry) (drop from journal)) =
    ap (λ l. not (list_any (retimes seat i) (drop from l))) (reverse-reverse journal) in
    sym (ap (λ c. c && (is_unheard seat i from (past journal) && (not (is_shut (past journal)) && may_fall (probe_at (past journal) i)))) within
    ∙ ap (λ c. c && (not (is_shut (past journal)) && may_fall (probe_at (past journal) i))) unheard
    ∙ ap (λ s. not (list_any (λ entry. retimes seat i entry) (drop from journal)) && (not s && may_fall (probe_at (past journal) i))) (sym keeps.shut_is)
    ∙ ap (λ c. not (list_any (λ entry. retimes seat i entry) (drop from journal)) && (not shut && c)) (sym answer))
