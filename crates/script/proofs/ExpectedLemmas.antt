-- What is expected of the slots, one slot after another.
use Rattle.std.proofs.Common.{ℕ, zero, suc, ◌≡◌, ◌<◌, ◌≤◌, ◌==◌, Bool, true, false, List, [], ◌∷◌, ◌++◌, All, Option, None, Some, refl, sym, subst, arith}
use Rattle.std.specs.Bool.{if◌then◌else◌}
use Rattle.std.specs.Option.{option_to_list}
use Rattle.std.proofs.lemmas.List.{append-nil}
use Rattle.std.proofs.lemmas.List.Elements.{All-nil, All-head, All-tail, All-weaker, All-push}
use Rattle.desk_core.specs.Catalogue.{name_at}
use Rattle.script.specs.declared.expectation.ScriptExpectation.{ScriptExpectation}
use Rattle.script.specs.declared.expected.Expected.{Expected}
use Rattle.script.specs.declared.line.Line.{Line}
use Rattle.script.specs.Expected.{expected_of_name, expected_first, seconds_of, AreRising, AreEachOnce}

-- a slot above all others stands behind them
rising_push : (expected : List Expected) (one : Expected) → AreRising expected → All (λ other. other.slot < one.slot) expected → AreRising (expected ++ one ∷ [])
rising_push [] one rising below = (All-nil (λ other. one.slot < other.slot), tt)
rising_push (first ∷ others) one rising below =
    let under : Expected → Type 0 = λ other. other.slot < one.slot in
    (All-push (λ other. first.slot < other.slot) others one rising.0 (All-head under first others below), rising_push others one rising.1 (All-tail under first others below))

-- what was collected of the first slots, so many
record IsCollected (count : ℕ) (expected : List Expected) : Type 0 where
  each : AreEachOnce expected
  below : All (λ one. one.slot < count) expected

-- slots below a bound are below the next
all_below : (expected : List Expected) (count : ℕ) → All (λ one. one.slot < count) expected → All (λ one. one.slot < suc count) expected
all_below expected count below = All-weaker (λ one. one.slot < count) (λ one. one.slot < suc count) (λ one less. omega (arith, less)) expected below

collect : (expected : List Expected) (slot : ℕ) (found : Option Expected) → IsCollected slot expected
    → ((one : Expected) → found ≡ Some one → (one.slot ≡ slot) × (1 ≤ one.seconds)) → IsCollected (suc slot) (expected ++ option_to_list found)
collect expected slot None so_far is =
    rw append-nil (record { each = so_far.each; below = all_below expected slot so_far.below })
collect expected slot (Some one) so_far is =
    let own = is one refl in
    let here : one.slot ≡ slot = own.0 in
    record {
      each = record {
        once = rising_push expected one so_far.each.once (subst (λ (n : ℕ). All (λ other. other.slot < n) expected) (sym here) so_far.below);
        some = All-push (λ other. 1 ≤ other.seconds) expected one so_far.each.some own.1;
      };
      below = All-push (λ other. other.slot < suc slot) expected one (all_below expected slot so_far.below) (omega (arith, here));
    }

-- a slot that is expected at all is so within 1 second or more
every_some : (slot seconds : ℕ) (none : Bool) (one : Expected) → (seconds == 0) ≡ none → (if none then None else Some (record { slot = slot; seconds = seconds })) ≡ Some one
    → (one.slot ≡ slot) × (1 ≤ one.seconds)
every_some slot seconds true one tested is = cc
every_some slot seconds false one tested is =
    let same : record { slot = slot; seconds = seconds } ≡ one = cc in
    subst (λ (e : Expected). (e.slot ≡ slot) × (1 ≤ e.seconds)) same (refl, grind (arith, tested))

found_some : (lines : List Line) (expectations : List ScriptExpectation) (slot : ℕ) (name : Option (List ℕ)) (one : Expected)
    → expected_of_name lines expectations slot name ≡ Some one → (one.slot ≡ slot) × (1 ≤ one.seconds)
found_some lines expectations slot None one is = cc
found_some lines expectations slot (Some name) one is = every_some slot (seconds_of name lines expectations 0) _ one refl is

collected : (names : List (List ℕ)) (lines : List Line) (expectations : List ScriptExpectation) (count : ℕ) → IsCollected count (expected_first names lines expectations count)
collected names lines expectations zero = record { each = record { once = tt; some = All-nil (λ one. 1 ≤ one.seconds) }; below = All-nil (λ one. one.slot < 0) }
collected names lines expectations (suc slot) =
    collect (expected_first names lines expectations slot) slot (expected_of_name lines expectations slot (name_at names slot)) (collected names lines expectations slot)
    (found_some lines expectations slot (name_at names slot))

pub each_once : (names : List (List ℕ)) (lines : List Line) (expectations : List ScriptExpectation) (count : ℕ) → AreEachOnce (expected_first names lines expectations count)
each_once names lines expectations count = (collected names lines expectations count).each
