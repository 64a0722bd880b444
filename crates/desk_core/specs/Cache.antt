-- What a desk keeps so that a change costs what it touches, and no part of its promise: the statuses of all slots, and who
-- depends on whom.
use Rattle.std.specs.Prelude.{◌≡◌, ℕ, ◌<◌, ◌==◌, Bool, true, false, if◌then◌else◌, Option, None, Some, List, slice_index_or}
use Rattle.std.specs.Option.{option_map}
use Rattle.health_wire.specs.declared.serving.Serving.{Serving}
use Rattle.probe_core.specs.declared.rule.Rule.{Rule}
use Rattle.probe_core.specs.Rule.{relied_on}
use Rattle.desk_core.specs.declared.call.Call.{Call}
use Rattle.desk_core.specs.declared.call.Call.TheVariants.{Register, Retire, Observe, Set, Shutdown, Resume}
use Rattle.desk_core.specs.Status.{has_slot}
use Rattle.desk_core.specs.Board.{packed}
use Rattle.desk_core.specs.Slots.{covers_below, status_from}

-- a slot of this rule depends on slot j
abbrev pub relies_on : Option Rule → ℕ → Bool
relies_on None j = false
relies_on (Some rule) j = has_slot (relied_on rule) j

-- the rule of a slot's probe
abbrev pub rule_in : List (Option (Rule × ℕ)) → ℕ → Option Rule
rule_in slots i = option_map (λ state. state.0) (slice_index_or slots i None)

-- the statuses are those of the probes: each follows from the slot's probe and from the statuses of the others
abbrev pub IsMapOf : List (Option (Rule × ℕ)) → Bool → (ℕ → Option Serving) → Type 0
IsMapOf slots shut statuses = (i : ℕ) → i < 16
    → statuses i ≡ option_map (status_from (covers_below statuses 16) shut) (slice_index_or slots i None)

-- each slot depends on slots before its own alone
abbrev pub LooksBack : List (Option (Rule × ℕ)) → Type 0
LooksBack slots = (i j : ℕ) → i < 16 → relies_on (rule_in slots i) j ≡ true → j < i

-- the mask of each slot has exactly the slots whose rule depends on it
abbrev pub HasDependents : (ℕ → Option Rule) → List ℕ → Type 0
HasDependents rules dependents = (i j : ℕ) → i < 16 → j < 16
    → has_slot (slice_index_or dependents j 0) i ≡ relies_on (rules i) j

-- outside the touched slots each probe is as it was, and so is whether the server is shut down
abbrev pub Leaves : ℕ → List (Option (Rule × ℕ)) → Bool → List (Option (Rule × ℕ)) → Bool → Type 0
Leaves touched was was_shut slots shut = (i : ℕ) → i < 16 → has_slot touched i ≡ false
    → (slice_index_or slots i None ≡ slice_index_or was i None) × (shut ≡ was_shut)

-- one slot's rule is another, and the masks say so
abbrev pub HasRule : ℕ → Option Rule → List ℕ → List ℕ → Type 0
HasRule slot rule old new = (i j : ℕ) → i < 16 → j < 16
    → has_slot (slice_index_or new j 0) i ≡ (if i == slot then relies_on rule j else has_slot (slice_index_or old j 0) i)

-- after a change the masks say the rules in force, where they said them before
abbrev pub IsRelated : Call → List ℕ → List ℕ → Type 0
IsRelated (Register slot rule) old new = HasRule slot (Some rule) old new
IsRelated (Retire slot) old new = HasRule slot None old new
IsRelated (Observe slot finding) old new = new ≡ old
IsRelated (Set slot setting) old new = new ≡ old
IsRelated Shutdown old new = new ≡ old
IsRelated Resume old new = new ≡ old

-- a word of statuses was made new after a change that touched these slots: where it was that of the old probes, it is that of
-- the probes now
abbrev pub IsRefreshed : ℕ → List (Option (Rule × ℕ)) → Bool → List ℕ → ℕ → ℕ → Type 0
IsRefreshed touched slots shut dependents old new = (f g : ℕ → Option Serving) (was : List (Option (Rule × ℕ))) (was_shut : Bool)
    → IsMapOf was was_shut f → IsMapOf slots shut g → LooksBack slots → HasDependents (rule_in slots) dependents
    → Leaves touched was was_shut slots shut → old ≡ packed f 16 → new ≡ packed g 16
