use Rattle.std.proofs.Common.{◌≡◌, ℕ, zero, suc, ◌+◌, ◌==◌, ◌<◌, ◌≤◌, ◌&&◌, ◌||◌, min, not, nat_le, nat_lt, cond, Bool, true, false, List, [], ◌∷◌}
use Rattle.std.proofs.Common.{◌++◌, length, take, drop, refl, sym, ap, subst, ◌∙◌, inl, inr, ◌⊎◌, arith, length-append}
use Rattle.std.specs.List.{list_all, prefix_len, range_with_len, Any}
use Rattle.std.proofs.lemmas.Bool.{cases_lt, lt-ltb, le-ltb, le-leb, lt-leb, eqb-true, eq-eqb, false≢true}
use Rattle.std.proofs.lemmas.List.{take-append-drop}
use Rattle.std.proofs.Math.Seq.{drop-append_seam, take-append_seam}
use Rattle.std.proofs.lemmas.List.Folds.{Any-from_list_any, list_any_at}
use Rattle.std.proofs.lemmas.List.FromFn.{get_or-range_with_len, length-range_with_len}
use Rattle.probe_core.specs.declared.event.Event.{Event}
use Rattle.probe_core.specs.declared.event.Event.TheVariants.{Pass, Fail, Up, Down}
use Rattle.probe_core.specs.declared.rule.Rule.{Rule}
use Rattle.probe_core.specs.declared.rule.Rule.TheVariants.{Threshold, Manual, Depends}
use Rattle.probe_core.specs.declared.start.Start.{Start}
use Rattle.probe_core.specs.declared.start.Start.TheVariants as starts
use Rattle.probe_core.specs.Rule.{HasCounts, fits, starts_unknown, is_count, is_in_range, counted, count_next, memory_next, opening_memory, is_up_at, is_unknown_at}
use Rattle.probe_core.specs.Events.{all_fit, is_fail, is_pass, is_up, is_unknown, count_after, memory_after, newest_are, has_run, is_down}

suc_le : (a b : ℕ) → nat_le (suc a) (suc b) ≡ nat_le a b
suc_le a b =
    elim (cases_lt b a) as (λ _. nat_le (suc a) (suc b) ≡ nat_le a b) [
      | inl below ↦ lt-leb (suc a) (suc b) (omega arith) ∙ sym (lt-leb a b below)
      | inr above ↦ le-leb (suc a) (suc b) (omega arith) ∙ sym (le-leb a b above)
    ]

one_le : (a b : ℕ) → nat_le (suc a) (1 + b) ≡ nat_le a b
one_le a b =
    elim (cases_lt b a) as (λ _. nat_le (suc a) (1 + b) ≡ nat_le a b) [
      | inl below ↦ lt-leb (suc a) (1 + b) (omega arith) ∙ sym (lt-leb a b below)
      | inr above ↦ le-leb (suc a) (1 + b) (omega arith) ∙ sym (le-leb a b above)
    ]

and_false : (b : Bool) → (b && false) ≡ false
and_false true = refl
and_false false = refl

-- the newest so many events are of a kind where that many stand in a row at the newest end
pub newest_are-row : (is : Event → Bool) (count : ℕ) (events : List Event) → newest_are is count events ≡ nat_le count (prefix_len is events)
newest_are-row is zero events = rw (le-leb zero (length events) (omega arith), le-leb zero (prefix_len is events) (omega arith)) refl
newest_are-row is (suc count) [] = rw (lt-leb (suc count) 0 (omega arith)) refl
newest_are-row is (suc count) (newest ∷ older) = by_test (is newest) refl (newest_are-row is count older)
  where
    by_test : (b : Bool) → is newest ≡ b → newest_are is count older ≡ nat_le count (prefix_len is older)
        → newest_are is (suc count) (newest ∷ older) ≡ nat_le (suc count) (prefix_len is (newest ∷ older))
    by_test true holds row = rw (holds, suc_le count (length older), one_le count (prefix_len is older)) row
    by_test false isnt row = rw (isnt, and_false (nat_le (suc count) (suc (length older)))) (sym (lt-leb (suc count) 0 (omega arith)))

and_parts : (a b : Bool) → (a && b) ≡ true → (a ≡ true) × (b ≡ true)
and_parts true b is = (refl, is)
and_parts false b is = absurd (false≢true is)

or_parts : (a b : Bool) → (a || b) ≡ false → (a ≡ false) × (b ≡ false)
or_parts true b is = absurd (false≢true (sym is))
or_parts false b is = (refl, is)

not_true : (b : Bool) → not b ≡ true → b ≡ false
not_true true is = absurd (false≢true is)
not_true false is = refl

-- a kind that the newest event is not of
no_row : (is : Event → Bool) (count : ℕ) (newest : Event) (older : List Event) → 1 ≤ count → is newest ≡ false → newest_are is count (newest ∷ older) ≡ false
no_row is count newest older some isnt = newest_are-row is count (newest ∷ older)
    ∙ lt-leb count (prefix_len is (newest ∷ older)) (omega (arith, some, ap (λ b. cond b (1 + prefix_len is older) 0) isnt))

-- a point from which the service is down
record IsDown (fall rise : ℕ) (events : List Event) : Type 0 where
  newer : List Event
  older : List Event
  parts : events ≡ newer ++ older
  fell : newest_are is_fail fall older ≡ true
  none : has_run rise newer ≡ false

-- a point stands among the places that are looked at
abbrev test : ℕ → ℕ → List Event → ℕ → Bool
test fall rise events k = newest_are is_fail fall (drop k events) && not (has_run rise (take k events))

down_at : (fall rise : ℕ) (events : List Event) → is_down fall rise events ≡ true → IsDown fall rise events
down_at fall rise events is =
    let found : Any (λ k. test fall rise events k ≡ true) (range_with_len 0 (length events + 1)) = Any-from_list_any (test fall rise events) (range_with_len 0 (length events + 1)) is in
    let both = and_parts (newest_are is_fail fall (drop found.1 events)) (not (has_run rise (take found.1 events))) found.4 in
    record {
      newer = take found.1 events;
      older = drop found.1 events;
      parts = sym (take-append-drop found.1 events);
      fell = both.0;
      none = not_true (has_run rise (take found.1 events)) both.1;
    }

down_of : (fall rise : ℕ) (events : List Event) → IsDown fall rise events → is_down fall rise events ≡ true
down_of fall rise events down =
    let k = length down.newer in
    let within : k < length events + 1 = omega (arith, ap length down.parts, length-append down.newer down.older) in
    let there : test fall rise events k ≡ true =
    subst (λ es. test fall rise es k ≡ true) (sym down.parts) (rw (drop-append_seam down.newer down.older, take-append_seam down.newer down.older, down.fell, down.none) refl) in
    list_any_at (test fall rise events) (range_with_len 0 (length events + 1)) k 0 (omega (arith, within, length-range_with_len 0 (length events + 1)))
    (ap (test fall rise events) (omega (arith, get_or-range_with_len 0 (length events + 1) k 0 within)) ∙ there)

up_of : (fall rise : ℕ) (events : List Event) → ¬ IsDown fall rise events → is_down fall rise events ≡ false
up_of fall rise events up = by_test (is_down fall rise events) refl
  where
    by_test : (b : Bool) → is_down fall rise events ≡ b → b ≡ false
    by_test true is = absurd (up (down_at fall rise events is))
    by_test false is = refl

run_none : (rise : ℕ) → 1 ≤ rise → has_run rise [] ≡ false
unfolding has_run
run_none rise some = lt-leb rise 0 (omega (arith, some))

run_cons : (rise : ℕ) (newest : Event) (older : List Event) → has_run rise (newest ∷ older) ≡ (newest_are is_pass rise (newest ∷ older) || has_run rise older)
unfolding has_run
run_cons rise newest older = refl

-- an event that is no pass makes no run
run_kept : (rise : ℕ) (newest : Event) (older : List Event) → 1 ≤ rise → is_pass newest ≡ false → has_run rise older ≡ false → has_run rise (newest ∷ older) ≡ false
run_kept rise newest older some isnt none = run_cons rise newest older ∙ rw (no_row is_pass rise newest older some isnt, none) refl

-- failures in a row bring it down
falls : (fall rise : ℕ) (events : List Event) → 1 ≤ rise → fall ≤ prefix_len is_fail events → IsDown fall rise events
falls fall rise events some row = record {
  newer = [];
  older = events;
  parts = refl;
  fell = newest_are-row is_fail fall events ∙ le-leb fall (prefix_len is_fail events) row;
  none = run_none rise some;
}

-- a failure leaves it down
down_fail : (fall rise : ℕ) (events : List Event) → 1 ≤ rise → IsDown fall rise events → IsDown fall rise (Fail ∷ events)
down_fail fall rise events some down = record {
  newer = Fail ∷ down.newer;
  older = down.older;
  parts = ap (λ (es : List Event). Fail ∷ es) down.parts;
  fell = down.fell;
  none = run_kept rise Fail down.newer some refl down.none;
}

-- a row at the newest end is no longer in a front
row_front : (is : Event → Bool) (xs ys : List Event) → prefix_len is xs ≤ prefix_len is (xs ++ ys)
row_front is [] ys = omega arith
row_front is (x ∷ xs) ys = by_test (is x) (row_front is xs ys)
  where
    by_test : (b : Bool) → prefix_len is xs ≤ prefix_len is (xs ++ ys) → cond b (1 + prefix_len is xs) 0 ≤ cond b (1 + prefix_len is (xs ++ ys)) 0
    by_test true front = omega (arith, front)
    by_test false front = omega arith

-- so does a pass that makes no whole run
down_pass : (fall rise : ℕ) (events : List Event) → suc (prefix_len is_pass events) < rise → IsDown fall rise events → IsDown fall rise (Pass ∷ events)
down_pass fall rise events short down =
    let front : prefix_len is_pass down.newer ≤ prefix_len is_pass events =
    omega (arith, row_front is_pass down.newer down.older, ap (prefix_len is_pass) down.parts) in
    let row : newest_are is_pass rise (Pass ∷ down.newer) ≡ false =
    newest_are-row is_pass rise (Pass ∷ down.newer) ∙ lt-leb rise (1 + prefix_len is_pass down.newer) (omega (arith, front, short)) in
    record {
      newer = Pass ∷ down.newer;
      older = down.older;
      parts = ap (λ (es : List Event). Pass ∷ es) down.parts;
      fell = down.fell;
      none = run_cons rise Pass down.newer ∙ rw (row, down.none) refl;
    }

-- where the failures begin no pass stands
fell_end : (fall : ℕ) (older : List Event) → 1 ≤ fall → newest_are is_fail fall older ≡ true → prefix_len is_pass older ≡ 0
fell_end fall [] some fell = refl
fell_end fall (Pass ∷ older) some fell = absurd (false≢true (sym (no_row is_fail fall Pass older some refl) ∙ fell))
fell_end fall (Fail ∷ older) some fell = refl
fell_end fall (Up ∷ older) some fell = refl
fell_end fall (Down ∷ older) some fell = refl

row_newer : (fall : ℕ) (newer older : List Event) → 1 ≤ fall → newest_are is_fail fall older ≡ true → prefix_len is_pass (newer ++ older) ≡ prefix_len is_pass newer
row_newer fall [] older some fell = fell_end fall older some fell
row_newer fall (newest ∷ newer) older some fell = ap (λ n. cond (is_pass newest) (1 + n) 0) (row_newer fall newer older some fell)

-- a whole run takes it up
rises : (fall rise : ℕ) (events newer older : List Event) → 1 ≤ fall → rise ≤ suc (prefix_len is_pass events) → Pass ∷ events ≡ newer ++ older
    → newest_are is_fail fall older ≡ true → has_run rise newer ≡ false → ⊥
rises fall rise events [] older some long parts fell none =
    false≢true (sym (no_row is_fail fall Pass events some refl) ∙ subst (λ es. newest_are is_fail fall es ≡ true) (sym parts) fell)
rises fall rise events (newest ∷ newer) older some long parts fell none =
    let first : newest ≡ Pass = cc in
    let rest : events ≡ newer ++ older = cc in
    let row : prefix_len is_pass events ≡ prefix_len is_pass newer = ap (prefix_len is_pass) rest ∙ row_newer fall newer older some fell in
    let isnt = (or_parts (newest_are is_pass rise (newest ∷ newer)) (has_run rise newer) (sym (run_cons rise newest newer) ∙ none)).0 in
    let holds : newest_are is_pass rise (newest ∷ newer) ≡ true =
    rw first (newest_are-row is_pass rise (Pass ∷ newer) ∙ le-leb rise (1 + prefix_len is_pass newer) (omega (arith, long, row))) in
    false≢true (sym isnt ∙ holds)

-- a service that is up stays up at a pass, and at a failure that makes no whole row
stays_up : (fall rise : ℕ) (event : Event) (events newer older : List Event) → ¬ IsDown fall rise events → newest_are is_fail fall (event ∷ events) ≡ false
    → event ∷ events ≡ newer ++ older → newest_are is_fail fall older ≡ true → has_run rise newer ≡ false → ⊥
stays_up fall rise event events [] older up row parts fell none = false≢true (sym row ∙ subst (λ es. newest_are is_fail fall es ≡ true) (sym parts) fell)
stays_up fall rise event events (newest ∷ newer) older up row parts fell none =
    let rest : events ≡ newer ++ older = cc in
    let isnt = (or_parts (newest_are is_pass rise (newest ∷ newer)) (has_run rise newer) (sym (run_cons rise newest newer) ∙ none)).1 in
    up (record { newer = newer; older = older; parts = rest; fell = fell; none = isnt })

-- what a threshold counted, by whether it is down
down_count : (fall rise : ℕ) (start : Start) (events : List Event) → is_down fall rise events ≡ true → count_after (Threshold fall rise start) events ≡ fall + prefix_len is_pass events
down_count fall rise start events is = rw is refl

up_count : (fall rise : ℕ) (start : Start) (events : List Event) → is_down fall rise events ≡ false → count_after (Threshold fall rise start) events ≡ prefix_len is_fail events
up_count fall rise start events is = rw is refl

-- one that is up has fewer failures in a row
up_short : (fall rise : ℕ) (events : List Event) → 1 ≤ rise → is_down fall rise events ≡ false → prefix_len is_fail events < fall
up_short fall rise events some is =
    elim (cases_lt (prefix_len is_fail events) fall) as (λ _. prefix_len is_fail events < fall) [
      | inl short ↦ short
      | inr long ↦ absurd (false≢true (sym is ∙ down_of fall rise events (falls fall rise events some long)))
    ]

not_down : (fall rise : ℕ) (events : List Event) → is_down fall rise events ≡ false → ¬ IsDown fall rise events
not_down fall rise events is down = false≢true (sym is ∙ down_of fall rise events down)

-- what a threshold counted after a pass
after_pass : (fall rise : ℕ) (start : Start) (events : List Event) → 1 ≤ fall → 1 ≤ rise
    → count_after (Threshold fall rise start) (Pass ∷ events) ≡ count_next (Threshold fall rise start) Pass (count_after (Threshold fall rise start) events)
after_pass fall rise start events some few = by_test (is_down fall rise events) refl
  where
    next : ℕ → ℕ
    next count = count_next (Threshold fall rise start) Pass count

    by_run : (suc (prefix_len is_pass events) < rise) ⊎ (rise ≤ suc (prefix_len is_pass events)) → is_down fall rise events ≡ true
        → count_after (Threshold fall rise start) (Pass ∷ events) ≡ next (fall + prefix_len is_pass events)
    by_run (inl short) is =
        let down = down_of fall rise (Pass ∷ events) (down_pass fall rise events short (down_at fall rise events is)) in
        down_count fall rise start (Pass ∷ events) down
        ∙ rw (le-ltb (fall + prefix_len is_pass events) fall (omega arith), lt-ltb (fall + prefix_len is_pass events + 1) (fall + rise) (omega (arith, short))) (omega arith)
    by_run (inr long) is =
        let up : ¬ IsDown fall rise (Pass ∷ events) = λ d. rises fall rise events d.newer d.older some long d.parts d.fell d.none in
        up_count fall rise start (Pass ∷ events) (up_of fall rise (Pass ∷ events) up)
        ∙ rw (le-ltb (fall + prefix_len is_pass events) fall (omega arith), le-ltb (fall + prefix_len is_pass events + 1) (fall + rise) (omega (arith, long))) refl

    by_test : (b : Bool) → is_down fall rise events ≡ b → count_after (Threshold fall rise start) (Pass ∷ events) ≡ next (count_after (Threshold fall rise start) events)
    by_test true is = by_run (cases_lt (suc (prefix_len is_pass events)) rise) is ∙ ap next (sym (down_count fall rise start events is))
    by_test false is =
        let up : ¬ IsDown fall rise (Pass ∷ events) =
        λ d. stays_up fall rise Pass events d.newer d.older (not_down fall rise events is) (no_row is_fail fall Pass events some refl) d.parts d.fell d.none in
        up_count fall rise start (Pass ∷ events) (up_of fall rise (Pass ∷ events) up)
        ∙ rw (up_count fall rise start events is, lt-ltb (prefix_len is_fail events) fall (up_short fall rise events few is)) refl

-- and after a failure
after_fail : (fall rise : ℕ) (start : Start) (events : List Event) → 1 ≤ fall → 1 ≤ rise
    → count_after (Threshold fall rise start) (Fail ∷ events) ≡ count_next (Threshold fall rise start) Fail (count_after (Threshold fall rise start) events)
after_fail fall rise start events some few = by_test (is_down fall rise events) refl
  where
    by_row : (suc (prefix_len is_fail events) < fall) ⊎ (fall ≤ suc (prefix_len is_fail events)) → is_down fall rise events ≡ false
        → count_after (Threshold fall rise start) (Fail ∷ events) ≡ min fall (prefix_len is_fail events + 1)
    by_row (inl short) is =
        let row : newest_are is_fail fall (Fail ∷ events) ≡ false = newest_are-row is_fail fall (Fail ∷ events) ∙ lt-leb fall (1 + prefix_len is_fail events) (omega (arith, short)) in
        let up : ¬ IsDown fall rise (Fail ∷ events) = λ d. stays_up fall rise Fail events d.newer d.older (not_down fall rise events is) row d.parts d.fell d.none in
        up_count fall rise start (Fail ∷ events) (up_of fall rise (Fail ∷ events) up) ∙ omega (arith, short)
    by_row (inr long) is =
        down_count fall rise start (Fail ∷ events) (down_of fall rise (Fail ∷ events) (falls fall rise (Fail ∷ events) few (omega (arith, long)))) ∙ omega (arith, long)

    by_test : (b : Bool) → is_down fall rise events ≡ b
        → count_after (Threshold fall rise start) (Fail ∷ events) ≡ min fall (count_after (Threshold fall rise start) events + 1)
    by_test true is =
        down_count fall rise start (Fail ∷ events) (down_of fall rise (Fail ∷ events) (down_fail fall rise events few (down_at fall rise events is)))
        ∙ rw (down_count fall rise start events is) (omega arith)
    by_test false is = by_row (cases_lt (suc (prefix_len is_fail events)) fall) is ∙ rw (up_count fall rise start events is) refl

-- a number that may be counted to is at least one
some_count : (number : ℕ) → is_count number ≡ true → 1 ≤ number
some_count number counts =
    elim (cases_lt number 1) as (λ _. 1 ≤ number) [
      | inl none ↦ absurd (false≢true (sym (lt-leb 1 number none) ∙ (and_parts (nat_le 1 number) (nat_le number 1000) counts).0))
      | inr some ↦ some
    ]

-- the numbers of a rule in range are at least one
pub range_counts : (rule : Rule) → is_in_range rule ≡ true → HasCounts rule
range_counts (Threshold fall rise start) counts =
    let both = and_parts (is_count fall) (is_count rise) counts in (some_count fall both.0, some_count rise both.1)
range_counts Manual counts = tt
range_counts (Depends mask) counts = tt

-- before the first event nothing is counted
none_counted : (rule : Rule) → count_after rule [] ≡ 0
none_counted (Threshold fall rise start) = by_test (is_down fall rise []) refl
  where
    none_at : (d : IsDown fall rise []) → fall ≤ 0
    none_at d =
        let short : length d.older ≤ 0 = omega (arith, ap length d.parts, length-append d.newer d.older) in
        let row : nat_le fall (length d.older) ≡ true = (and_parts (nat_le fall (length d.older)) (list_all is_fail (take fall d.older)) d.fell).0 in
        elim (cases_lt (length d.older) fall) as (λ _. fall ≤ 0) [
          | inl above ↦ absurd (false≢true (sym (lt-leb fall (length d.older) above) ∙ row))
          | inr below ↦ omega (arith, below, short)
        ]

    by_test : (b : Bool) → is_down fall rise [] ≡ b → count_after (Threshold fall rise start) [] ≡ 0
    by_test true is = down_count fall rise start [] is ∙ omega (arith, none_at (down_at fall rise [] is))
    by_test false is = up_count fall rise start [] is
none_counted Manual = refl
none_counted (Depends mask) = refl

pub memory_opens : (rule : Rule) → memory_after rule [] ≡ opening_memory rule
memory_opens (Threshold fall rise starts.Up) = none_counted (Threshold fall rise starts.Up)
memory_opens (Threshold fall rise starts.Unknown) = refl
memory_opens Manual = refl
memory_opens (Depends mask) = refl

-- the count after one more event that fits
count_more : (rule : Rule) (event : Event) (events : List Event) → HasCounts rule → fits rule event ≡ true
    → count_after rule (event ∷ events) ≡ count_next rule event (count_after rule events)
count_more (Threshold fall rise start) Pass events counts fit =
    after_pass fall rise start events counts.0 counts.1
count_more (Threshold fall rise start) Fail events counts fit =
    after_fail fall rise start events counts.0 counts.1
count_more (Threshold fall rise start) Up events counts fit = absurd (false≢true fit)
count_more (Threshold fall rise start) Down events counts fit = absurd (false≢true fit)
count_more Manual Pass events counts fit = absurd (false≢true fit)
count_more Manual Fail events counts fit = absurd (false≢true fit)
count_more Manual Up events counts fit = refl
count_more Manual Down events counts fit = refl
count_more (Depends mask) event events counts fit = absurd (false≢true fit)

-- while a service is down its passes in a row are fewer than its rise
down_short : (fall rise : ℕ) (events : List Event) → 1 ≤ fall → 1 ≤ rise → is_down fall rise events ≡ true → prefix_len is_pass events < rise
down_short fall rise events some few is = by_newer down.newer refl
  where
    down : IsDown fall rise events
    down = down_at fall rise events is

    row : prefix_len is_pass events ≡ prefix_len is_pass down.newer
    row = ap (prefix_len is_pass) down.parts ∙ row_newer fall down.newer down.older some down.fell

    by_newer : (newer : List Event) → down.newer ≡ newer → prefix_len is_pass events < rise
    by_newer [] same = omega (arith, row, ap (prefix_len is_pass) same, few)
    by_newer (newest ∷ newer) same =
        let none : has_run rise (newest ∷ newer) ≡ false = subst (λ es. has_run rise es ≡ false) same down.none in
        let isnt : nat_le rise (prefix_len is_pass (newest ∷ newer)) ≡ false =
        sym (newest_are-row is_pass rise (newest ∷ newer)) ∙ (or_parts (newest_are is_pass rise (newest ∷ newer)) (has_run rise newer) (sym (run_cons rise newest newer) ∙ none)).0 in
        elim (cases_lt (prefix_len is_pass events) rise) as (λ _. prefix_len is_pass events < rise) [
          | inl short ↦ short
          | inr long ↦
              absurd (false≢true (sym isnt ∙ le-leb rise (prefix_len is_pass (newest ∷ newer)) (omega (arith, long, row, ap (prefix_len is_pass) same))))
        ]

-- no count reaches the sum of both numbers
count_short : (fall rise : ℕ) (start : Start) (events : List Event) → 1 ≤ fall → 1 ≤ rise → count_after (Threshold fall rise start) events < fall + rise
count_short fall rise start events some few = by_test (is_down fall rise events) refl
  where
    by_test : (b : Bool) → is_down fall rise events ≡ b → count_after (Threshold fall rise start) events < fall + rise
    by_test true is = omega (arith, down_count fall rise start events is, down_short fall rise events some few is)
    by_test false is = omega (arith, up_count fall rise start events is, up_short fall rise events few is)

-- what is below a number is not the number
below_differs : (a b : ℕ) → a < b → (a == b) ≡ false
below_differs a b below = by_test (a == b) refl
  where
    by_test : (is : Bool) → (a == b) ≡ is → is ≡ false
    by_test true same = absurd (omega (arith, below, eqb-true a b same))
    by_test false same = refl

-- a service that heard something is not unknown
known_count : (fall rise : ℕ) (events : List Event) → 1 ≤ fall → 1 ≤ rise → is_unknown_at (Threshold fall rise starts.Unknown) (count_after (Threshold fall rise starts.Unknown) events) ≡ false
known_count fall rise events some few =
    below_differs (count_after (Threshold fall rise starts.Unknown) events) (fall + rise) (count_short fall rise starts.Unknown events some few)

pub memory_unknown : (rule : Rule) (events : List Event) → HasCounts rule → all_fit rule events ≡ true → is_unknown_at rule (memory_after rule events) ≡ is_unknown rule events
memory_unknown (Threshold fall rise starts.Up) events counts fit = refl
memory_unknown (Threshold fall rise starts.Unknown) [] counts fit = eq-eqb (fall + rise) (fall + rise) refl
memory_unknown (Threshold fall rise starts.Unknown) (newest ∷ older) counts fit =
    known_count fall rise (newest ∷ older) counts.0 counts.1
memory_unknown Manual events counts fit = refl
memory_unknown (Depends mask) events counts fit = refl

-- a memory tells what was counted
memory_counted : (rule : Rule) (events : List Event) → HasCounts rule → counted rule (memory_after rule events) ≡ count_after rule events
memory_counted (Threshold fall rise starts.Up) events counts = refl
memory_counted (Threshold fall rise starts.Unknown) [] counts =
    rw (eq-eqb (fall + rise) (fall + rise) refl) (sym (none_counted (Threshold fall rise starts.Unknown)))
memory_counted (Threshold fall rise starts.Unknown) (newest ∷ older) counts =
    ap (λ b. cond b 0 (count_after (Threshold fall rise starts.Unknown) (newest ∷ older))) (known_count fall rise (newest ∷ older) counts.0 counts.1)
memory_counted Manual events counts = refl
memory_counted (Depends mask) events counts = refl

-- the memory after one more event that fits
pub memory_more : (rule : Rule) (event : Event) (events : List Event) → HasCounts rule → fits rule event ≡ true
    → memory_after rule (event ∷ events) ≡ memory_next rule event (memory_after rule events)
memory_more rule event events counts fit =
    ap (λ b. cond b (opening_memory rule) (count_after rule (event ∷ events))) (and_false (starts_unknown rule))
    ∙ count_more rule event events counts fit
    ∙ ap (count_next rule event) (sym (memory_counted rule events counts))
    ∙ ap (λ b. cond b (count_next rule event (counted rule (memory_after rule events))) (memory_after rule events)) (sym fit)

-- the count of a threshold is below its `fall` where it is up
threshold_tells : (fall rise : ℕ) (start : Start) (events : List Event) → 1 ≤ rise → nat_lt (count_after (Threshold fall rise start) events) fall ≡ not (is_down fall rise events)
threshold_tells fall rise start events some = by_test (is_down fall rise events) refl
  where
    by_test : (b : Bool) → is_down fall rise events ≡ b → nat_lt (count_after (Threshold fall rise start) events) fall ≡ not b
    by_test true is = rw (down_count fall rise start events is) (le-ltb (fall + prefix_len is_pass events) fall (omega arith))
    by_test false is = rw (up_count fall rise start events is) (lt-ltb (prefix_len is_fail events) fall (up_short fall rise events some is))

and_true : (b : Bool) → b ≡ (b && true)
and_true true = refl
and_true false = refl

pub memory_tells : (rule : Rule) (events : List Event) → HasCounts rule → all_fit rule events ≡ true
    → is_up_at rule (memory_after rule events) ≡ (is_up rule events && not (is_unknown rule events))
memory_tells (Threshold fall rise starts.Up) events counts fit =
    threshold_tells fall rise starts.Up events counts.1 ∙ and_true (not (is_down fall rise events))
memory_tells (Threshold fall rise starts.Unknown) [] counts fit =
    le-ltb (fall + rise) fall (omega arith) ∙ sym (and_false (not (is_down fall rise [])))
memory_tells (Threshold fall rise starts.Unknown) (newest ∷ older) counts fit =
    threshold_tells fall rise starts.Unknown (newest ∷ older) counts.1 ∙ and_true (not (is_down fall rise (newest ∷ older)))
memory_tells Manual [] counts fit = refl
memory_tells Manual (Pass ∷ older) counts fit = absurd (false≢true fit)
memory_tells Manual (Fail ∷ older) counts fit = absurd (false≢true fit)
memory_tells Manual (Up ∷ older) counts fit = refl
memory_tells Manual (Down ∷ older) counts fit = refl
memory_tells (Depends mask) events counts fit = refl

-- findings without a pass are all failures
all_failures : (fall : ℕ) (start : Start) (newer older : List Event) → all_fit (Threshold fall 1 start) (newer ++ older) ≡ true → has_run 1 newer ≡ false
    → prefix_len is_fail older ≤ prefix_len is_fail (newer ++ older)
all_failures fall start [] older fit none = omega arith
all_failures fall start (Pass ∷ newer) older fit none =
    let row : newest_are is_pass 1 (Pass ∷ newer) ≡ true = newest_are-row is_pass 1 (Pass ∷ newer) ∙ le-leb 1 (1 + prefix_len is_pass newer) (omega arith) in
    absurd (false≢true (sym (or_parts (newest_are is_pass 1 (Pass ∷ newer)) (has_run 1 newer) (sym (run_cons 1 Pass newer) ∙ none)).0 ∙ row))
all_failures fall start (Fail ∷ newer) older fit none =
    let rest = (or_parts (newest_are is_pass 1 (Fail ∷ newer)) (has_run 1 newer) (sym (run_cons 1 Fail newer) ∙ none)).1 in
    omega (arith, all_failures fall start newer older fit rest)
all_failures fall start (Up ∷ newer) older fit none = absurd (false≢true fit)
all_failures fall start (Down ∷ newer) older fit none = absurd (false≢true fit)

-- with a rise of one the first pass takes it up
pub rise_of_one : (fall : ℕ) (start : Start) (events : List Event) → all_fit (Threshold fall 1 start) events ≡ true → is_down fall 1 events ≡ newest_are is_fail fall events
rise_of_one fall start events fit =
    elim (cases_lt (prefix_len is_fail events) fall) as (λ _. is_down fall 1 events ≡ newest_are is_fail fall events) [
      | inl short ↦ up_of fall 1 events (λ d. longer d short) ∙ sym (newest_are-row is_fail fall events ∙ lt-leb fall (prefix_len is_fail events) short)
      | inr long ↦ down_of fall 1 events (falls fall 1 events (omega arith) long) ∙ sym (newest_are-row is_fail fall events ∙ le-leb fall (prefix_len is_fail events) long)
    ]
  where
    row_of : (older : List Event) → newest_are is_fail fall older ≡ true → fall ≤ prefix_len is_fail older
    row_of older fell =
        elim (cases_lt (prefix_len is_fail older) fall) as (λ _. fall ≤ prefix_len is_fail older) [
          | inl few ↦ absurd (false≢true (sym (newest_are-row is_fail fall older ∙ lt-leb fall (prefix_len is_fail older) few) ∙ fell))
          | inr many ↦ many
        ]

    longer : (d : IsDown fall 1 events) → prefix_len is_fail events < fall → ⊥
    longer d short =
        let all = all_failures fall start d.newer d.older (subst (λ es. all_fit (Threshold fall 1 start) es ≡ true) d.parts fit) d.none in
        omega (arith, short, all, row_of d.older d.fell, ap (prefix_len is_fail) d.parts)
