-- The rules in force of a legal history.
use Rattle.std.proofs.Common.{◌≡◌, ℕ, ◌^◌, ◌<◌, ◌==◌, ◌&&◌, if◌then◌else◌, Bool, true, false, Option, None, Some, unwrap_or, List, [], ◌∷◌, refl, subst, ltb-true}
use Rattle.std.specs.Option.{option_or}
use Rattle.std.proofs.lemmas.Bool.{eqb-true}
use Rattle.probe_core.specs.declared.rule.Rule.{Rule}
use Rattle.probe_core.specs.Rule.{HasCounts, relied_on, is_in_range}
use Rattle.probe_core.proofs.EventLemmas.{range_counts}
use Rattle.desk_core.specs.declared.call.Call.{Call}
use Rattle.desk_core.specs.declared.call.Call.TheVariants.{Register, Retire, Observe, Set, Shutdown, Resume}
use Rattle.desk_core.specs.declared.entry.Entry.{Entry}
use Rattle.desk_core.specs.Past.{last_said}
use Rattle.desk_core.specs.Present.{says_rule, rule_at, IsLawful}
use Rattle.desk_core.specs.Legal.{IsLegal, IsLawfulCall}

-- one more call keeps the rule in force lawful
lawful_more : (i : ℕ) (rule : Rule) (call : Call) (before : Option (Option Rule)) → (unwrap_or before None ≡ Some rule → IsLawful i rule)
    → IsLawfulCall call → unwrap_or (option_or (says_rule i call) before) None ≡ Some rule → IsLawful i rule
lawful_more i rule (Register slot other) before until lawful named = by_test (slot == i) refl named
  where
    by_test : (b : Bool) → (slot == i) ≡ b → unwrap_or (option_or (if b then Some (Some other) else None) before) None ≡ Some rule → IsLawful i rule
    by_test true at said =
        let same : slot ≡ i = eqb-true slot i at in
        let rules : other ≡ rule = (let both : Some other ≡ Some rule = said in cc) in
        let At : ℕ → Type 0 = λ s. IsLawful s other in
        let Of : Rule → Type 0 = λ r. IsLawful i r in
        subst Of rules (subst At same lawful)
    by_test false at said = until said
lawful_more i rule (Retire slot) before until lawful named = by_test (slot == i) named
  where
    by_test : (b : Bool) → unwrap_or (option_or (if b then Some None else None) before) None ≡ Some rule → IsLawful i rule
    by_test true said = let none : None ≡ Some rule = said in cc
    by_test false said = until said
lawful_more i rule (Observe slot finding) before until lawful named = until named
lawful_more i rule (Set slot setting) before until lawful named = until named
lawful_more i rule Shutdown before until lawful named = until named
lawful_more i rule Resume before until lawful named = until named

-- the rule in force of a legal history is lawful
pub lawful_rule : (entries : List Entry) (i : ℕ) (rule : Rule) → IsLegal entries → rule_at entries i ≡ Some rule → IsLawful i rule
lawful_rule [] i rule legal is = let none : None ≡ Some rule = is in cc
lawful_rule (entry ∷ older) i rule legal is =
    lawful_more i rule entry.call (last_said (says_rule i) older) (λ before. lawful_rule older i rule legal.0 before) legal.2 is

right_true : (a b : Bool) → (a && b) ≡ true → b ≡ true
right_true true b both = both
right_true false b both = let never : false ≡ true = both in cc

-- a lawful rule relies on slots before its own
pub relied_below : (i : ℕ) (rule : Rule) → IsLawful i rule → relied_on rule < 2 ^ i
relied_below i rule lawful = ltb-true (relied_on rule) (2 ^ i) (right_true (is_in_range rule) _ lawful)

left_true : (a b : Bool) → (a && b) ≡ true → a ≡ true
left_true true b both = refl
left_true false b both = let never : false ≡ true = both in cc

-- what the rule in force counts to is at least one
pub rule_counts : (entries : List Entry) (i : ℕ) (rule : Rule) → IsLegal entries → rule_at entries i ≡ Some rule → HasCounts rule
rule_counts entries i rule legal is = range_counts rule (left_true (is_in_range rule) _ (lawful_rule entries i rule legal is))
