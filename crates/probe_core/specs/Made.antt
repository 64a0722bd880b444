-- Probes that are made where they are asked for.
use Rattle.std.specs.Prelude.{ℕ, ◌≡◌, Result, IfOk}
use Rattle.std.specs.declared.alloc.AllocError.{AllocError}
use Rattle.probe_core.specs.declared.rule.Rule.{Rule}
use Rattle.probe_core.specs.Rule.{opening_memory}

-- what was made for a rule, where there was memory for it, has that rule and heard no event
abbrev pub IsAsked : {P : Type 0} → (P → Rule) → (P → ℕ) → Rule → Result P AllocError → Type 0
IsAsked rule_of memory_of rule made = IfOk made (λ probe. (rule_of probe ≡ rule) × (memory_of probe ≡ opening_memory rule))

-- whatever rule is asked for, what is made for it is such a one
abbrev pub MakesAsked : {P : Type 0} → (P → Rule) → (P → ℕ) → (Rule → Result P AllocError → Type 0) → Type 0
MakesAsked {P} rule_of memory_of gives = (rule : Rule) (made : Result P AllocError) → gives rule made → IsAsked rule_of memory_of rule made
