-- Which memories there are, and the findings that give one.
use Rattle.std.proofs.Common.{◌≡◌, ◌≢◌, ℕ, zero, suc, ◌+◌, ◌-◌, ◌<◌, ◌≤◌, ◌==◌, ◌&&◌, min, nat_lt, cond, if◌then◌else◌, subst, Bool, true, false, List, [], ◌∷◌, ◌++◌, length, replicate, refl, sym, ap, ◌∙◌, arith, ltb-true}
use Rattle.std.proofs.lemmas.Bool.{lt-ltb, le-ltb, eqb-true, eq-eqb, false≢true}
use Rattle.probe_core.specs.declared.event.Event.{Event}
use Rattle.probe_core.specs.declared.event.Event.TheVariants.{Pass, Fail, Up, Down}
use Rattle.probe_core.specs.declared.rule.Rule.{Rule}
use Rattle.probe_core.specs.declared.rule.Rule.TheVariants.{Threshold, Manual, Depends}
use Rattle.probe_core.specs.declared.start.Start.{Start}
use Rattle.probe_core.specs.declared.start.Start.TheVariants as starts
use Rattle.probe_core.specs.Rule.{HasCounts, fits, counted, count_next, memory_next, opening_memory}
use Rattle.probe_core.specs.Events.{all_fit, memory_after}
use Rattle.probe_core.proofs.EventLemmas.{memory_opens, memory_more}
use Rattle.journal_store.specs.Short.{AreFindings, IsMemory}

-- no memory is greater than that of a threshold that heard nothing
abbrev pub IsWithin : Rule → ℕ → Type 0
IsWithin (Threshold fall rise starts.Up) memory = memory < fall + rise
IsWithin (Threshold fall rise starts.Unknown) memory = memory ≤ fall + rise
IsWithin Manual memory = memory ≤ 1
IsWithin (Depends mask) memory = memory ≡ 0

within_of : (fall rise memory : ℕ) (start : Start) → memory < fall + rise → IsWithin (Threshold fall rise start) memory
within_of fall rise memory starts.Up below = below
within_of fall rise memory starts.Unknown below = omega (arith, below)

passed_below : (fall rise count : ℕ) → 1 ≤ fall → (a b : Bool) → nat_lt (count + 1) (fall + rise) ≡ b
    → (if a then 0 else (if b then count + 1 else 0)) < fall + rise
passed_below fall rise count some true b is = omega (arith, some)
passed_below fall rise count some false true is = ltb-true (count + 1) (fall + rise) is
passed_below fall rise count some false false is = omega (arith, some)

within_next : (rule : Rule) (event : Event) (memory : ℕ) → HasCounts rule → fits rule event ≡ true → IsWithin rule memory → IsWithin rule (memory_next rule event memory)
within_next (Threshold fall rise start) Pass memory counts fit within =
    let count = counted (Threshold fall rise start) memory in
    within_of fall rise _ start (passed_below fall rise count counts.0 (nat_lt count fall) (nat_lt (count + 1) (fall + rise)) refl)
within_next (Threshold fall rise start) Fail memory counts fit within =
    within_of fall rise (min fall (counted (Threshold fall rise start) memory + 1)) start (omega (arith, counts.1))
within_next (Threshold fall rise start) Up memory counts fit within = absurd (false≢true fit)
within_next (Threshold fall rise start) Down memory counts fit within = absurd (false≢true fit)
within_next Manual Pass memory counts fit within = absurd (false≢true fit)
within_next Manual Fail memory counts fit within = absurd (false≢true fit)
within_next Manual Up memory counts fit within = omega arith
within_next Manual Down memory counts fit within = omega arith
within_next (Depends mask) event memory counts fit within = absurd (false≢true fit)

both_true : (a b : Bool) → (a && b) ≡ true → (a ≡ true) × (b ≡ true)
both_true true b is = (refl, is)
both_true false b is = absurd (false≢true is)

within_opening : (rule : Rule) → HasCounts rule → IsWithin rule (opening_memory rule)
within_opening (Threshold fall rise starts.Up) counts = omega (arith, counts.0)
within_opening (Threshold fall rise starts.Unknown) counts = omega arith
within_opening Manual counts = omega arith
within_opening (Depends mask) counts = refl

within_events : (rule : Rule) (events : List Event) → HasCounts rule → all_fit rule events ≡ true → IsWithin rule (memory_after rule events)
within_events rule [] counts fit = let P : ℕ → Type 0 = λ m. IsWithin rule m in subst P (sym (memory_opens rule)) (within_opening rule counts)
within_events rule (event ∷ events) counts fit =
    let both = both_true (fits rule event) (all_fit rule events) fit in
    let P : ℕ → Type 0 = λ m. IsWithin rule m in
    subst P (sym (memory_more rule event events counts both.0))
    (within_next rule event (memory_after rule events) counts both.0 (within_events rule events counts both.1))

-- a memory of a rule is within its numbers
pub memory_within : (rule : Rule) (memory : ℕ) → HasCounts rule → IsMemory rule memory → IsWithin rule memory
memory_within rule memory counts has =
    let P : ℕ → Type 0 = λ m. IsWithin rule m in subst P (sym has.is) (within_events rule has.events counts has.fit)

-- before the first event nothing is counted
counted_opening : (fall rise : ℕ) (start : Start) → counted (Threshold fall rise start) (opening_memory (Threshold fall rise start)) ≡ 0
counted_opening fall rise starts.Up = refl
counted_opening fall rise starts.Unknown = rw (eq-eqb (fall + rise) (fall + rise) refl) refl

below_differs : (a b : ℕ) → a < b → (a == b) ≡ false
below_differs a b below = by_test (a == b) refl
  where
    by_test : (is : Bool) → (a == b) ≡ is → is ≡ false
    by_test true same = absurd (omega (arith, below, eqb-true a b same))
    by_test false same = refl

-- a memory below the sum of both numbers is a count
counted_below : (fall rise memory : ℕ) (start : Start) → memory < fall + rise → counted (Threshold fall rise start) memory ≡ memory
counted_below fall rise memory starts.Up below = refl
counted_below fall rise memory starts.Unknown below = ap (λ b. cond b 0 memory) (below_differs memory (fall + rise) below)

after_fail : (fall rise : ℕ) (start : Start) (events : List Event) → 1 ≤ fall → 1 ≤ rise
    → memory_after (Threshold fall rise start) (Fail ∷ events) ≡ min fall (counted (Threshold fall rise start) (memory_after (Threshold fall rise start) events) + 1)
after_fail fall rise start events some few = memory_more (Threshold fall rise start) Fail events (some, few) refl

after_pass : (fall rise : ℕ) (start : Start) (events : List Event) → 1 ≤ fall → 1 ≤ rise
    → memory_after (Threshold fall rise start) (Pass ∷ events)
    ≡ count_next (Threshold fall rise start) Pass (counted (Threshold fall rise start) (memory_after (Threshold fall rise start) events))
after_pass fall rise start events some few = memory_more (Threshold fall rise start) Pass events (some, few) refl

next_fails : (fall rise : ℕ) (start : Start) (fails : ℕ) → 1 ≤ fall → 1 ≤ rise → suc fails ≤ fall
    → counted (Threshold fall rise start) (memory_after (Threshold fall rise start) (replicate fails Fail)) ≡ fails
    → memory_after (Threshold fall rise start) (replicate (suc fails) Fail) ≡ suc fails
next_fails fall rise start fails some few short until =
    after_fail fall rise start (replicate fails Fail) some few ∙ ap (λ n. min fall (n + 1)) until ∙ omega (arith, short)

-- failures in a row are counted up to the first number
counted_fails : (fall rise : ℕ) (start : Start) (fails : ℕ) → 1 ≤ fall → 1 ≤ rise → fails ≤ fall
    → counted (Threshold fall rise start) (memory_after (Threshold fall rise start) (replicate fails Fail)) ≡ fails
counted_fails fall rise start zero some few short = ap (counted (Threshold fall rise start)) (memory_opens (Threshold fall rise start)) ∙ counted_opening fall rise start
counted_fails fall rise start (suc fails) some few short =
    ap (counted (Threshold fall rise start)) (next_fails fall rise start fails some few short (counted_fails fall rise start fails some few (omega (arith, short))))
    ∙ counted_below fall rise (suc fails) start (omega (arith, short, few))

-- some failures in a row are the memory
after_fails : (fall rise : ℕ) (start : Start) (fails : ℕ) → 1 ≤ fall → 1 ≤ rise → 1 ≤ fails → fails ≤ fall
    → memory_after (Threshold fall rise start) (replicate fails Fail) ≡ fails
after_fails fall rise start zero some few one short = absurd (omega (arith, one))
after_fails fall rise start (suc fails) some few one short = next_fails fall rise start fails some few short (counted_fails fall rise start fails some few (omega (arith, short)))

-- all failures that it takes, and passes behind them
after_passes : (fall rise : ℕ) (start : Start) (passes : ℕ) → 1 ≤ fall → 1 ≤ rise → passes < rise
    → memory_after (Threshold fall rise start) (replicate passes Pass ++ replicate fall Fail) ≡ fall + passes
after_passes fall rise start zero some few short = after_fails fall rise start fall some few some (omega arith) ∙ omega arith
after_passes fall rise start (suc passes) some few short =
    after_pass fall rise start (replicate passes Pass ++ replicate fall Fail) some few
    ∙ ap (λ m. count_next (Threshold fall rise start) Pass (counted (Threshold fall rise start) m)) (after_passes fall rise start passes some few (omega (arith, short)))
    ∙ ap (count_next (Threshold fall rise start) Pass) (counted_below fall rise (fall + passes) start (omega (arith, short)))
    ∙ rw (le-ltb (fall + passes) fall (omega arith), lt-ltb (fall + passes + 1) (fall + rise) (omega (arith, short))) (omega arith)

counted_least : (fall rise memory : ℕ) (start : Start) → counted (Threshold fall rise start) memory ≤ memory
counted_least fall rise memory starts.Up = omega arith
counted_least fall rise memory starts.Unknown = by_test (memory == fall + rise)
  where
    by_test : (b : Bool) → cond b 0 memory ≤ memory
    by_test true = omega arith
    by_test false = omega arith

passed_most : (count : ℕ) (a b : Bool) → (if a then 0 else (if b then count + 1 else 0)) ≤ count + 1
passed_most count true b = omega arith
passed_most count false true = omega arith
passed_most count false false = omega arith

-- no more is counted than there were events
counted_most : (fall rise : ℕ) (start : Start) (events : List Event) → 1 ≤ fall → 1 ≤ rise → all_fit (Threshold fall rise start) events ≡ true
    → counted (Threshold fall rise start) (memory_after (Threshold fall rise start) events) ≤ length events
counted_most fall rise start [] some few fit =
    let none = ap (counted (Threshold fall rise start)) (memory_opens (Threshold fall rise start)) ∙ counted_opening fall rise start in omega (arith, none)
counted_most fall rise start (Pass ∷ events) some few fit =
    let count = counted (Threshold fall rise start) (memory_after (Threshold fall rise start) events) in
    omega (
      arith,
      counted_least fall rise (memory_after (Threshold fall rise start) (Pass ∷ events)) start,
      after_pass fall rise start events some few,
      passed_most count (nat_lt count fall) (nat_lt (count + 1) (fall + rise)),
      counted_most fall rise start events some few fit,
    )
counted_most fall rise start (Fail ∷ events) some few fit =
    omega (
      arith,
      counted_least fall rise (memory_after (Threshold fall rise start) (Fail ∷ events)) start,
      after_fail fall rise start events some few,
      counted_most fall rise start events some few fit,
    )
counted_most fall rise start (Up ∷ events) some few fit = absurd (false≢true fit)
counted_most fall rise start (Down ∷ events) some few fit = absurd (false≢true fit)

-- so a count takes as many events
count_takes : (fall rise memory : ℕ) (start : Start) (events : List Event) → 1 ≤ fall → 1 ≤ rise → memory < fall + rise → all_fit (Threshold fall rise start) events ≡ true
    → memory_after (Threshold fall rise start) events ≡ memory → memory ≤ length events
count_takes fall rise memory start events some few below fit is =
    omega (arith, ap (counted (Threshold fall rise start)) is ∙ counted_below fall rise memory start below, counted_most fall rise start events some few fit)

-- no memory is greater than both numbers together
memory_most : (fall rise memory : ℕ) (start : Start) → 1 ≤ fall → 1 ≤ rise → IsMemory (Threshold fall rise start) memory → memory ≤ fall + rise
memory_most fall rise memory starts.Up some few has = let below = memory_within (Threshold fall rise starts.Up) memory (some, few) has in omega (arith, below)
memory_most fall rise memory starts.Unknown some few has = memory_within (Threshold fall rise starts.Unknown) memory (some, few) has

-- one that starts unknown and has heard nothing
pub none_found : (fall rise memory : ℕ) (start : Start) → 1 ≤ fall → 1 ≤ rise → IsMemory (Threshold fall rise start) memory → memory ≡ fall + rise
    → AreFindings fall rise memory start 0 0
none_found fall rise memory starts.Up some few has is = let below = memory_within (Threshold fall rise starts.Up) memory (some, few) has in absurd (omega (arith, below, is))
none_found fall rise memory starts.Unknown some few has is = record { gives = sym is; few = omega arith; fewest = λ events fit has_it. omega arith }

-- one that is up, and has counted some
pub fails_found : (fall rise memory : ℕ) (start : Start) → 1 ≤ fall → 1 ≤ rise → memory < fall → memory ≢ 0 → AreFindings fall rise memory start memory 0
fails_found fall rise memory start some few short counts = record {
  gives = after_fails fall rise start memory some few (omega (arith, counts)) (omega (arith, short));
  few = omega (arith, short);
  fewest = λ events fit gives. omega (arith, count_takes fall rise memory start events some few (omega (arith, short)) fit gives);
}

-- one that is down
pub passes_found : (fall rise memory fails passes : ℕ) (start : Start) → 1 ≤ fall → 1 ≤ rise → IsMemory (Threshold fall rise start) memory → memory ≢ fall + rise
    → fall ≤ memory → fails ≡ fall → passes ≡ memory - fall
    → AreFindings fall rise memory start fails passes
passes_found fall rise memory fails passes start some few has known down falls is =
    let most = memory_most fall rise memory start some few has in
    let sum : fall + passes ≡ memory = omega (arith, is, down) in
    record {
      gives = ap (λ n. memory_after (Threshold fall rise start) (replicate passes Pass ++ replicate n Fail)) falls
          ∙ after_passes fall rise start passes some few (omega (arith, sum, most, known)) ∙ sum;
      few = omega (arith, sum, falls, most);
      fewest = λ events fit gives. omega (arith, sum, falls, count_takes fall rise memory start events some few (omega (arith, most, known)) fit gives);
    }
