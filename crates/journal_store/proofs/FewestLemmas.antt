-- No history that comes to the same is shorter.
use Rattle.std.proofs.Common.{◌≡◌, ℕ, zero, suc, ◌+◌, ◌≤◌, ◌==◌, ◌&&◌, not, if◌then◌else◌, Bool, true, false, Option, None, Some, unwrap_or, List, [], ◌∷◌, length, refl, subst, arith}
use Rattle.std.specs.Option.{option_map, option_or}
use Rattle.std.proofs.lemmas.Bool.{eqb-true}
use Rattle.probe_core.specs.declared.event.Event.{Event}
use Rattle.probe_core.specs.declared.rule.Rule.{Rule}
use Rattle.probe_core.specs.Rule.{fits}
use Rattle.probe_core.specs.Events.{memory_after}
use Rattle.desk_core.specs.declared.call.Call.{Call}
use Rattle.desk_core.specs.declared.call.Call.TheVariants.{Register, Retire, Observe, Set, Shutdown, Resume}
use Rattle.desk_core.specs.declared.entry.Entry.{Entry}
use Rattle.desk_core.specs.Past.{last_said}
use Rattle.desk_core.specs.Present.{rule_at, says_rule}
use Rattle.desk_core.specs.Heard.{heard, with_event, forgets, event_for, event_of_finding, event_of_setting}
use Rattle.desk_core.specs.Shut.{is_shut, says_shut}
use Rattle.desk_core.specs.Desk.{probe_at}
use Rattle.journal_store.specs.Short.{slot_named, names, naming, naming_below}

-- how many slots below the n-th a change names
names_below : ℕ → Option ℕ → ℕ
names_below zero slot = 0
names_below (suc n) slot = names_below n slot + names n slot

names_none : (n : ℕ) → names_below n None ≡ 0
unfolding names_below
names_none zero = refl
names_none (suc n) = omega (arith, names_none n)

names_past : (n slot : ℕ) → n ≤ slot → names_below n (Some slot) ≡ 0
unfolding names_below
names_past zero slot past = refl
names_past (suc n) slot past = by_test (slot == n) refl (names_past n slot (omega (arith, past)))
  where
    by_test : (b : Bool) → (slot == n) ≡ b → names_below n (Some slot) ≡ 0 → names_below n (Some slot) + (if b then 1 else 0) ≡ 0
    by_test true is none = absurd (omega (arith, past, eqb-true slot n is))
    by_test false is none = omega (arith, none)

-- it names one at most
names_most : (n slot : ℕ) → names_below n (Some slot) ≤ 1
unfolding names_below
names_most zero slot = omega arith
names_most (suc n) slot = by_test (slot == n) refl (names_most n slot)
  where
    by_test : (b : Bool) → (slot == n) ≡ b → names_below n (Some slot) ≤ 1 → names_below n (Some slot) + (if b then 1 else 0) ≤ 1
    by_test true is most = omega (arith, names_past n slot (omega (arith, eqb-true slot n is)))
    by_test false is most = omega (arith, most)

naming_none : (n : ℕ) → naming_below n [] ≡ 0
unfolding naming_below
naming_none zero = refl
naming_none (suc n) = omega (arith, naming_none n)

naming_more : (n : ℕ) (entry : Entry) (older : List Entry) → naming_below n (entry ∷ older) ≡ names_below n (slot_named entry.call) + naming_below n older
unfolding naming_below names_below
naming_more zero entry older = refl
naming_more (suc n) entry older = omega (arith, naming_more n entry older)

-- one slot more
pub naming_next : (n : ℕ) (entries : List Entry) → naming_below (n + 1) entries ≡ naming_below n entries + naming n entries
unfolding naming_below
naming_next n entries = let next : n + 1 ≡ suc n = omega arith in rw next refl

-- how many entries name no slot
unnamed_by : Option ℕ → ℕ
unnamed_by None = 1
unnamed_by (Some slot) = 0

unnamed : List Entry → ℕ
unnamed [] = 0
unnamed (entry ∷ older) = unnamed_by (slot_named entry.call) + unnamed older

named_once : (n : ℕ) (slot : Option ℕ) → names_below n slot + unnamed_by slot ≤ 1
unfolding unnamed_by
named_once n None = omega (arith, names_none n)
named_once n (Some slot) = omega (arith, names_most n slot)

-- an entry names one slot or none
named_total : (n : ℕ) (entries : List Entry) → naming_below n entries + unnamed entries ≤ length entries
unfolding unnamed
named_total n [] = omega (arith, naming_none n)
named_total n (entry ∷ older) = omega (arith, naming_more n entry older, named_once n (slot_named entry.call), named_total n older)

-- one that is shut down has an entry that says so
unnamed_shut : (entries : List Entry) → is_shut entries ≡ true → 1 ≤ unnamed entries
unfolding unnamed unnamed_by
unnamed_shut [] shut = let never : false ≡ true = shut in cc
unnamed_shut (entry ∷ older) shut = by_call entry.call (λ before. unnamed_shut older before) shut
  where
    by_call : (call : Call) → (is_shut older ≡ true → 1 ≤ unnamed older) → unwrap_or (option_or (says_shut call) (last_said says_shut older)) false ≡ true
        → 1 ≤ unnamed_by (slot_named call) + unnamed older
    by_call (Register slot rule) until said = omega (arith, until said)
    by_call (Retire slot) until said = omega (arith, until said)
    by_call (Observe slot finding) until said = omega (arith, until said)
    by_call (Set slot setting) until said = omega (arith, until said)
    by_call Shutdown until said = omega arith
    by_call Resume until said = omega arith

pub naming_within : (n : ℕ) (entries : List Entry) → naming_below n entries ≤ length entries
naming_within n entries = omega (arith, named_total n entries)

pub naming_shut : (n : ℕ) (entries : List Entry) → is_shut entries ≡ true → naming_below n entries + 1 ≤ length entries
naming_shut n entries shut = omega (arith, named_total n entries, unnamed_shut entries shut)

heard_one_more : (rule : Rule) (shut : Bool) (event : Event) (events : List Event) → length (with_event rule shut (Some event) events) ≤ 1 + length events
heard_one_more rule shut event events = by_test (not shut && fits rule event)
  where
    by_test : (b : Bool) → length (if b then event ∷ events else events) ≤ 1 + length events
    by_test true = omega arith
    by_test false = omega arith

-- what is named of a slot of this rule
abbrev IsNamed : ℕ → Rule → List Entry → Type 0
IsNamed i rule older = rule_at older i ≡ Some rule → 1 + length (heard older i rule) ≤ naming i older

named_event : (here : Bool) (event : Event) (i : ℕ) (rule : Rule) (older : List Entry) → 1 + length (heard older i rule) ≤ naming i older
    → 1 + length (with_event rule (is_shut older) (if here then Some event else None) (heard older i rule)) ≤ (if here then 1 else 0) + naming i older
named_event true event i rule older until = omega (arith, until, heard_one_more rule (is_shut older) event (heard older i rule))
named_event false event i rule older until = omega (arith, until)

named_call : (call : Call) (i : ℕ) (rule : Rule) (older : List Entry) → IsNamed i rule older
    → unwrap_or (option_or (says_rule i call) (last_said (says_rule i) older)) None ≡ Some rule
    → 1 + length (if forgets i call then [] else with_event rule (is_shut older) (event_for i call) (heard older i rule)) ≤ names i (slot_named call) + naming i older
named_call (Register slot other) i rule older until said = by_test (slot == i) said
  where
    by_test : (b : Bool) → unwrap_or (option_or (if b then Some (Some other) else None) (last_said (says_rule i) older)) None ≡ Some rule
        → 1 + length (if b then [] else heard older i rule) ≤ (if b then 1 else 0) + naming i older
    by_test true now = omega arith
    by_test false now = omega (arith, until now)
named_call (Retire slot) i rule older until said = by_test (slot == i) said
  where
    by_test : (b : Bool) → unwrap_or (option_or (if b then Some None else None) (last_said (says_rule i) older)) None ≡ Some rule
        → 1 + length (heard older i rule) ≤ (if b then 1 else 0) + naming i older
    by_test true now = let none : None ≡ Some rule = now in cc
    by_test false now = omega (arith, until now)
named_call (Observe slot finding) i rule older until said = named_event (slot == i) (event_of_finding finding) i rule older (until said)
named_call (Set slot setting) i rule older until said = named_event (slot == i) (event_of_setting setting) i rule older (until said)
named_call Shutdown i rule older until said = omega (arith, until said)
named_call Resume i rule older until said = omega (arith, until said)

-- a registered slot is named by its registration, and by each entry that it heard since
pub heard_named : (entries : List Entry) (i : ℕ) (rule : Rule) → rule_at entries i ≡ Some rule → 1 + length (heard entries i rule) ≤ naming i entries
heard_named [] i rule is = let none : None ≡ Some rule = is in cc
heard_named (entry ∷ older) i rule is = named_call entry.call i rule older (λ said. heard_named older i rule said) is

-- the rule and the events of a probe
pub probe_parts : (entries : List Entry) (i : ℕ) (probe : Rule × ℕ) → probe_at entries i ≡ Some probe
    → (rule_at entries i ≡ Some probe.0) × (memory_after probe.0 (heard entries i probe.0) ≡ probe.1)
probe_parts entries i probe is = by_rule (rule_at entries i) refl is
  where
    by_rule : (o : Option Rule) → rule_at entries i ≡ o → option_map (λ rule. (rule, memory_after rule (heard entries i rule))) o ≡ Some probe
        → (rule_at entries i ≡ Some probe.0) × (memory_after probe.0 (heard entries i probe.0) ≡ probe.1)
    by_rule None ruled said = let none : None ≡ Some probe = said in cc
    by_rule (Some rule) ruled said =
        let same : (rule, memory_after rule (heard entries i rule)) ≡ probe = (let both : Some (rule, memory_after rule (heard entries i rule)) ≡ Some probe = said in cc) in
        let P : Rule × ℕ → Type 0 = λ p. (rule_at entries i ≡ Some p.0) × (memory_after p.0 (heard entries i p.0) ≡ p.1) in
        subst P same (ruled, refl)
