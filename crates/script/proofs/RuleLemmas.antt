-- Probes for the lines of a script.
use Rattle.std.proofs.Common.{◌≡◌, ℕ, ◌+◌, ◌<◌, All, Option, None, Some, Result, Ok, List, [], ◌∷◌, ◌++◌, length, map, take, drop, get_or, refl, sym, ap, subst, ◌∙◌}
use Rattle.std.specs.List.{cons_option}
use Rattle.std.specs.Option.{option_to_list}
use Rattle.std.specs.declared.alloc.AllocError.{AllocError}
use Rattle.std.proofs.lemmas.List.{map-append, take_more, drop_more, append-nil}
use Rattle.std.proofs.lemmas.List.Elements.{All-push, filter_map-append}
use Rattle.probe_core.specs.declared.rule.Rule.{Rule}
use Rattle.probe_core.specs.Made.{IsAsked}
use Rattle.probe_core.specs.Rule.{opening_memory}
use Rattle.script.specs.declared.line.Line.{Line}
use Rattle.script.specs.Rules.{rule_in, rules_in}

-- probes of the rules of some lines, each with the opening memory
pub record AreMade {P : Type 0} (rule_of : P → Rule) (memory_of : P → ℕ) (lines : List Line) (probes : List P) : Type 0 where
  pub rules : map rule_of probes ≡ rules_in lines
  pub memories : All (λ probe. memory_of probe ≡ opening_memory (rule_of probe)) probes

-- the lines that are left begin with the one whose turn it is
pub left_is : (lines : List Line) (i : ℕ) (line : Line) → i < length lines → line ≡ get_or lines i line → drop i lines ≡ line ∷ drop (i + 1) lines
left_is lines i line below is = drop_more lines i line below ∙ ap (λ (l : Line). l ∷ drop (i + 1) lines) (sym is)

-- the rules of one line more
rules_more : (lines : List Line) (i : ℕ) (line : Line) → i < length lines → line ≡ get_or lines i line → rules_in (take (i + 1) lines) ≡ rules_in (take i lines) ++ cons_option (rule_in line) []
rules_more lines i line below is =
    ap rules_in (take_more lines i line below) ∙ filter_map-append rule_in (take i lines) (get_or lines i line ∷ []) ∙ ap (λ l. rules_in (take i lines) ++ cons_option (rule_in l) []) (sym is)

-- a line that registers a service has a probe made
pub made_one : {P : Type 0} (rule_of : P → Rule) (memory_of : P → ℕ) (lines : List Line) (i : ℕ) (line : Line) (found : Option Rule) (rule : Rule)
    (made : Result P AllocError) (probe : P) (probes next : List P) → i < length lines → line ≡ get_or lines i line → found ≡ rule_in line
    → found ≡ Some rule → IsAsked rule_of memory_of rule made → made ≡ Ok probe → next ≡ probes ++ probe ∷ []
    → AreMade rule_of memory_of (take i lines) probes → AreMade rule_of memory_of (take (i + 1) lines) next
made_one {P} rule_of memory_of lines i line found rule made probe probes next below is looked some asked gave pushed before =
    let Asked : Result P AllocError → Type 0 = λ m. IsAsked rule_of memory_of rule m in
    let Made : List P → Type 0 = λ ps. AreMade rule_of memory_of (take (i + 1) lines) ps in
    let as_asked = subst Asked gave asked in
    let more : rules_in (take (i + 1) lines) ≡ rules_in (take i lines) ++ rule ∷ [] =
    rules_more lines i line below is ∙ ap (λ r. rules_in (take i lines) ++ cons_option r []) (sym looked ∙ some) in
    let after : AreMade rule_of memory_of (take (i + 1) lines) (probes ++ probe ∷ []) = record {
      rules = map-append rule_of probes (probe ∷ []) ∙ ap (λ rs. rs ++ rule_of probe ∷ []) before.rules ∙ ap (λ r. rules_in (take i lines) ++ r ∷ []) as_asked.0 ∙ sym more;
      memories = All-push (λ p. memory_of p ≡ opening_memory (rule_of p)) probes probe before.memories (as_asked.1 ∙ ap opening_memory (sym as_asked.0));
    } in
    subst Made (sym pushed) after

-- another line has none
pub made_none : {P : Type 0} (rule_of : P → Rule) (memory_of : P → ℕ) (lines : List Line) (i : ℕ) (line : Line) (found : Option Rule)
    (probes : List P) → i < length lines → line ≡ get_or lines i line → found ≡ rule_in line → found ≡ None
    → AreMade rule_of memory_of (take i lines) probes → AreMade rule_of memory_of (take (i + 1) lines) probes
made_none rule_of memory_of lines i line found probes below is looked none before = record {
  rules = before.rules ∙ sym (append-nil (rules_in (take i lines))) ∙ ap (λ r. rules_in (take i lines) ++ cons_option r []) (sym none ∙ looked) ∙ sym (rules_more lines i line below is);
  memories = before.memories;
}

-- a value in front of a list, where there is one
cons_option-list : {X : Type 0} (value : Option X) (others : List X) → cons_option value others ≡ option_to_list value ++ others
cons_option-list None others = refl
cons_option-list (Some value) others = refl

-- what stands behind the value is one list
others_same : {X : Type 0} (value : Option X) (others more : List X) → option_to_list value ++ others ≡ option_to_list value ++ more → others ≡ more
others_same None others more same = same
others_same (Some value) others more same = cc

-- of the rules of lines that of the first line stands first
pub rules_first : (line : Line) (lines : List Line) (rules : List Rule) → rules ≡ rules_in (line ∷ lines) → rules ≡ option_to_list (rule_in line) ++ rules_in lines
rules_first line lines rules are = are ∙ cons_option-list (rule_in line) (rules_in lines)

-- and behind it stand those of the others
pub rules_behind : (line : Line) (lines : List Line) (rules after : List Rule) → rules ≡ rules_in (line ∷ lines) → rules ≡ option_to_list (rule_in line) ++ after → after ≡ rules_in lines
rules_behind line lines rules after are taken = others_same (rule_in line) after (rules_in lines) (sym taken ∙ rules_first line lines rules are)
