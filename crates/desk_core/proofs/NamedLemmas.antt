-- That each cause of a reason names an entry: a slot that no entry took down is up, and the like of the other reasons.
use Rattle.std.proofs.Common.{◌≡◌, ℕ, ◌+◌, ◌<◌, ◌==◌, ◌&&◌, ◌||◌, ◌⊎◌, ◌↔◌, inl, inr, not, min, nat_le, nat_lt, cond, Bool, true, false, if◌then◌else◌, Option, None, Some, unwrap_or, is_some, List, [], ◌∷◌, ◌++◌, length, length-append, refl, sym, ap, subst, ◌∙◌, arith}
use Rattle.std.specs.List.{list_any, prefix_len}
use Rattle.std.specs.Option.{option_or}
use Rattle.std.proofs.lemmas.Bool.{cases_lt, eqb-true, le-leb, leb-false, lt-ltb, lt-leb, false≢true}
use Rattle.health_wire.specs.declared.serving.Serving.TheVariants.{Unknown, NotServing}
use Rattle.probe_core.specs.declared.event.Event.{Event}
use Rattle.probe_core.specs.declared.event.Event.TheVariants as events
use Rattle.probe_core.specs.declared.rule.Rule.{Rule}
use Rattle.probe_core.specs.declared.rule.Rule.TheVariants.{Threshold, Manual, Depends}
use Rattle.probe_core.specs.declared.start.Start.TheVariants as starts
use Rattle.probe_core.specs.Events.{count_after, is_down, is_empty, is_fail, is_pass, is_unknown, is_up, is_up_setting}
use Rattle.probe_core.specs.Rule.{HasCounts, fits, relied_on, starts_unknown}
use Rattle.probe_core.proofs.EventLemmas.{memory_more, memory_opens}
use Rattle.desk_core.specs.declared.call.Call.{Call}
use Rattle.desk_core.specs.declared.call.Call.TheVariants.{Register, Retire, Observe, Set, Shutdown, Resume}
use Rattle.desk_core.specs.declared.entry.Entry.{Entry}
use Rattle.desk_core.specs.declared.reason.Cause.{Cause}
use Rattle.desk_core.specs.declared.reason.Reason.TheVariants as reasons
use Rattle.desk_core.specs.declared.reply.Reply.{Reply}
use Rattle.desk_core.specs.declared.reply.Reply.TheVariants.{Done, Missing, WrongKind, Ignored}
use Rattle.desk_core.specs.Heard.{event_for, event_of_finding, event_of_setting, forgets, heard, with_event}
use Rattle.desk_core.specs.Legal.{IsLegal}
use Rattle.desk_core.specs.Named.{IsNamed, NamesEntries, TookDown, is_heard, registers, resumes, took_down}
use Rattle.desk_core.specs.Past.{last_said}
use Rattle.desk_core.specs.Present.{rule_at, says_rule}
use Rattle.desk_core.specs.Reason.{absent_by, asks_retired, brings, depends_by, down_by, down_since, fails_in_row, first_down, forgets_all, named, newest, newest_since, not_serving_by, reason_at, reason_by, retires, shuts, takes_down}
use Rattle.desk_core.specs.Reply.{reply_to, reply_to_event}
use Rattle.desk_core.specs.Shut.{is_shut, says_shut}
use Rattle.desk_core.specs.Silence.{is_done}
use Rattle.desk_core.specs.Status.{all_serving, opinion, serving_if, status_at, status_by}
use Rattle.desk_core.proofs.LawfulLemmas.{rule_counts}
use Rattle.desk_core.proofs.SlotLemmas.{covers-nothing}
use Rattle.desk_core.proofs.StatusLemmas.{all_serving-covers, and_true}
use Rattle.tail.specs.Tail.{forgotten}

-- an entry of a kind at a place, that no later one undid
record Found (kind : Entry → List Entry → Bool) (undoes : Entry → Bool) (entries : List Entry) (place : ℕ) : Type 0 where
  newer : List Entry
  entry : Entry
  older : List Entry
  parts : entries ≡ newer ++ entry ∷ older
  of_kind : kind entry older ≡ true
  stands : list_any undoes newer ≡ false
  at : place ≡ length older

-- What holds of a history holds before each entry that is not of the kind, and such an entry does not undo
Outlasts : (Entry → List Entry → Bool) → (Entry → Bool) → (List Entry → Type 0) → Type 0
Outlasts kind undoes Holds = (entry : Entry) (older : List Entry) → kind entry older ≡ false → Holds (entry ∷ older) → (undoes entry ≡ false) × Holds older

-- where something holds that outlasts all others, the newest entry of a kind is such a one
newest_found : (kind : Entry → List Entry → Bool) (undoes : Entry → Bool) (Holds : List Entry → Type 0) → Outlasts kind undoes Holds
    → (entries : List Entry) (place : ℕ) → Holds entries → newest kind entries ≡ Some place → Found kind undoes entries place
unfolding Outlasts
newest_found kind undoes Holds outlasts [] place holds is = let none : None ≡ Some place = is in absurd (cc)
newest_found kind undoes Holds outlasts (entry ∷ older) place holds is =
    by_this (kind entry older) refl is (λ before now. newest_found kind undoes Holds outlasts older place before now)
  where
    by_this : (b : Bool) → kind entry older ≡ b → (if b then Some (length older) else newest kind older) ≡ Some place
        → (Holds older → newest kind older ≡ Some place → Found kind undoes older place) → Found kind undoes (entry ∷ older) place
    by_this true this now rest = record {
      newer = [];
      entry = entry;
      older = older;
      parts = refl;
      of_kind = this;
      stands = refl;
      at = let both : Some (length older) ≡ Some place = now in cc;
    }
    by_this false this now rest =
        let step = outlasts entry older this holds in
        let found = rest step.1 now in record {
          newer = entry ∷ found.newer;
          entry = found.entry;
          older = found.older;
          parts = ap (λ (es : List Entry). entry ∷ es) found.parts;
          of_kind = found.of_kind;
          stands = ap (λ b. b || list_any undoes found.newer) step.0 ∙ found.stands;
          at = found.at;
        }

-- so it is named
newest_named : (kept : Option ℕ) (kind : Entry → List Entry → Bool) (undoes : Entry → Bool) (Holds : List Entry → Type 0) → Outlasts kind undoes Holds
    → (entries : List Entry) (place : ℕ) → Holds entries → newest kind entries ≡ Some place → IsNamed kept entries kind undoes (named kept entries (Some place))
newest_named kept kind undoes Holds outlasts entries place holds is =
    let found = newest_found kind undoes Holds outlasts entries place holds is in record {
      newer = found.newer;
      entry = found.entry;
      older = found.older;
      parts = found.parts;
      of_kind = found.of_kind;
      is_newest = is ∙ ap Some found.at;
      stands = found.stands;
      cause_is = ap (λ p. named kept entries (Some p)) found.at;
    }

-- the newest since a slot last forgot what it heard is the newest
since_newest : (i : ℕ) (kind : Entry → List Entry → Bool) (entries : List Entry) (place : ℕ) → newest_since i kind entries ≡ Some place → newest kind entries ≡ Some place
since_newest i kind [] place is = is
since_newest i kind (entry ∷ older) place is = by_this (kind entry older) is (λ now. since_newest i kind older place now)
  where
    by_gone : (b : Bool) → (if b then None else newest_since i kind older) ≡ Some place → (newest_since i kind older ≡ Some place → newest kind older ≡ Some place)
        → newest kind older ≡ Some place
    by_gone true now rest = let none : None ≡ Some place = now in absurd (cc)
    by_gone false now rest = rest now

    by_this : (b : Bool) → (if b then Some (length older) else (if forgets i entry.call then None else newest_since i kind older)) ≡ Some place
        → (newest_since i kind older ≡ Some place → newest kind older ≡ Some place) → (if b then Some (length older) else newest kind older) ≡ Some place
    by_this true now rest = now
    by_this false now rest = by_gone (forgets i entry.call) now rest

-- and the slot forgot nothing since
since_outlasts : (i : ℕ) (kind : Entry → List Entry → Bool) (place : ℕ) → Outlasts kind (λ entry. forgets i entry.call) (λ entries. newest_since i kind entries ≡ Some place)
unfolding Outlasts
since_outlasts i kind place entry older this is =
    by_gone (forgets i entry.call) (sym (ap (λ b. if b then Some (length older) else (if forgets i entry.call then None else newest_since i kind older)) this) ∙ is)
  where
    by_gone : (b : Bool) → (if b then None else newest_since i kind older) ≡ Some place → (b ≡ false) × (newest_since i kind older ≡ Some place)
    by_gone true now = let none : None ≡ Some place = now in absurd (cc)
    by_gone false now = (refl, now)

-- a server that is shut down was not resumed since
shut_outlasts : Outlasts shuts (λ entry. resumes entry.call) (λ entries. is_shut entries ≡ true)
unfolding Outlasts
shut_outlasts entry older this is = by_call entry.call this is
  where
    by_call : (call : Call) → unwrap_or (option_or (says_shut call) None) false ≡ false → unwrap_or (option_or (says_shut call) (last_said says_shut older)) false ≡ true
        → (resumes call ≡ false) × (is_shut older ≡ true)
    by_call (Register slot rule) this' now = (refl, now)
    by_call (Retire slot) this' now = (refl, now)
    by_call (Observe slot finding) this' now = (refl, now)
    by_call (Set slot setting) this' now = (refl, now)
    by_call Shutdown this' now = absurd (false≢true (sym this'))
    by_call Resume this' now = absurd (false≢true now)

-- no rule is in force
abbrev IsAbsent : ℕ → List Entry → Type 0
IsAbsent i entries = IsLegal entries × (rule_at entries i ≡ None)

-- a slot without a rule was not registered since it was retired
retired_outlasts : (i : ℕ) → Outlasts (retires i) (λ entry. registers i entry.call) (IsAbsent i)
unfolding Outlasts
retired_outlasts i entry older this holds = by_call entry.call this holds.1 holds.0.1
  where
    before : Option (Option Rule)
    before = last_said (says_rule i) older

    nothing : (o : Option Rule) → (is_done entry.reply) ≡ false → entry.reply ≡ (if is_some o then Done else Missing) → o ≡ None
    nothing None not_done replied = refl
    nothing (Some rule) not_done replied = absurd (false≢true (sym not_done ∙ ap is_done replied))

    by_call : (call : Call) → (asks_retired i call && is_done entry.reply) ≡ false → unwrap_or (option_or (says_rule i call) before) None ≡ None
        → entry.reply ≡ reply_to older call → (registers i call ≡ false) × IsAbsent i older
    by_call (Register slot rule) this' now replied = by_slot (slot == i) now
      where
        by_slot : (b : Bool) → unwrap_or (option_or (if b then Some (Some rule) else None) before) None ≡ None → (b ≡ false) × IsAbsent i older
        by_slot true here = let some : Some rule ≡ None = here in absurd (cc)
        by_slot false here = (refl, (holds.0.0, here))
    by_call (Retire slot) this' now replied = by_slot (slot == i) refl this' now
      where
        by_slot : (b : Bool) → (slot == i) ≡ b → (b && is_done entry.reply) ≡ false → unwrap_or (option_or (if b then Some None else None) before) None ≡ None
            → (false ≡ false) × IsAbsent i older
        by_slot true same not_done here =
            (refl, (holds.0.0, nothing (rule_at older i) not_done (replied ∙ ap (λ s. if is_some (rule_at older s) then Done else Missing) (eqb-true slot i same))))
        by_slot false same not_done here = (refl, (holds.0.0, here))
    by_call (Observe slot finding) this' now replied = (refl, (holds.0.0, now))
    by_call (Set slot setting) this' now replied = (refl, (holds.0.0, now))
    by_call Shutdown this' now replied = (refl, (holds.0.0, now))
    by_call Resume this' now replied = (refl, (holds.0.0, now))

-- where there is no newest entry of a kind this entry is not of it
not_this : (b : Bool) (place : ℕ) (rest : Option ℕ) → (if b then Some place else rest) ≡ None → (b ≡ false) × (rest ≡ None)
not_this true place rest is = let some : Some place ≡ None = is in absurd (cc)
not_this false place rest is = (refl, is)

-- a server that no entry shut down is not shut down
never_shut : (entries : List Entry) → newest shuts entries ≡ None → is_shut entries ≡ false
never_shut [] none = refl
never_shut (entry ∷ older) none =
    let both = not_this (shuts entry older) (length older) (newest shuts older) none in
    by_said (says_shut entry.call) both.0 (never_shut older both.1)
  where
    by_said : (said : Option Bool) → unwrap_or (option_or said None) false ≡ false → is_shut older ≡ false → unwrap_or (option_or said (last_said says_shut older)) false ≡ false
    by_said None this rest = rest
    by_said (Some b) this rest = this

-- a rule that this entry did not register was in force before it
rule_older : (i : ℕ) (rule : Rule) (call : Call) (before : Option (Option Rule)) → forgets i call ≡ false
    → unwrap_or (option_or (says_rule i call) before) None ≡ Some rule → unwrap_or before None ≡ Some rule
rule_older i rule (Register slot other) before kept is = by_slot (slot == i) kept is
  where
    by_slot : (b : Bool) → b ≡ false → unwrap_or (option_or (if b then Some (Some other) else None) before) None ≡ Some rule → unwrap_or before None ≡ Some rule
    by_slot true never now = absurd (false≢true (sym never))
    by_slot false never now = now
rule_older i rule (Retire slot) before kept is = by_slot (slot == i) is
  where
    by_slot : (b : Bool) → unwrap_or (option_or (if b then Some None else None) before) None ≡ Some rule → unwrap_or before None ≡ Some rule
    by_slot true now = let none : None ≡ Some rule = now in absurd (cc)
    by_slot false now = now
rule_older i rule (Observe slot finding) before kept is = is
rule_older i rule (Set slot setting) before kept is = is
rule_older i rule Shutdown before kept is = is
rule_older i rule Resume before kept is = is

-- a registered slot has an entry that had it forget what it heard
never_begun : (entries : List Entry) (i : ℕ) (rule : Rule) → newest (forgets_all i) entries ≡ None → rule_at entries i ≡ Some rule → ⊥
never_begun [] i rule none is = let no : None ≡ Some rule = is in cc
never_begun (entry ∷ older) i rule none is =
    let both = not_this (forgets i entry.call) (length older) (newest (forgets_all i) older) none in
    never_begun older i rule both.1 (rule_older i rule entry.call (last_said (says_rule i) older) both.0 is)

-- an event that is heard takes a slot of this rule down
turns_down : Rule → Event → List Event → Bool
turns_down (Threshold fall rise start) event events = is_fail event && nat_le fall (prefix_len is_fail (event ∷ events))
turns_down Manual event events = not (is_up_setting event)
turns_down (Depends mask) event events = false

-- no event did so
IsHigh : Rule → List Event → Type 0
IsHigh (Threshold fall rise start) events = count_after (Threshold fall rise starts.Up) events < fall
IsHigh Manual events = is_up Manual events ≡ true
IsHigh (Depends mask) events = Unit {0}

-- before the first event
high_first : (rule : Rule) → HasCounts rule → IsHigh rule []
unfolding IsHigh
high_first (Threshold fall rise start) counts = omega (arith, memory_opens (Threshold fall rise starts.Up), counts.0)
high_first Manual counts = refl
high_first (Depends mask) counts = tt

-- a slot that no event took down is up
count_up : (fall rise : ℕ) (heard : List Event) (b : Bool) → cond b (fall + prefix_len is_pass heard) (prefix_len is_fail heard) < fall → not b ≡ true
count_up fall rise heard true high = absurd (omega (arith, high))
count_up fall rise heard false high = refl

high_up : (rule : Rule) (heard : List Event) → IsHigh rule heard → is_up rule heard ≡ true
unfolding IsHigh
high_up (Threshold fall rise start) heard high = count_up fall rise heard (is_down fall rise heard) high
high_up Manual heard high = high
high_up (Depends mask) heard high = refl

-- and it counts its failures in a row
count_fails : (fall : ℕ) (heard : List Event) (b : Bool) → cond b (fall + prefix_len is_pass heard) (prefix_len is_fail heard) < fall
    → cond b (fall + prefix_len is_pass heard) (prefix_len is_fail heard) ≡ prefix_len is_fail heard
count_fails fall heard true high = absurd (omega (arith, high))
count_fails fall heard false high = refl

short_row : (fall fails : ℕ) → nat_le fall (1 + fails) ≡ false → fails + 1 < fall
short_row fall fails short =
    elim (cases_lt (1 + fails) fall) as (λ _. fails + 1 < fall) [
      | inl below ↦ omega (arith, below)
      | inr above ↦ absurd (false≢true (sym short ∙ le-leb fall (1 + fails) above))
    ]

-- it stays up at an event that does not take it down
high_more : (rule : Rule) (event : Event) (heard : List Event) → HasCounts rule → fits rule event ≡ true → turns_down rule event heard ≡ false → IsHigh rule heard → IsHigh rule (event ∷ heard)
unfolding IsHigh turns_down
high_more (Threshold fall rise start) events.Pass heard counts fit stays high =
    let count = count_after (Threshold fall rise starts.Up) heard in
    let more : count_after (Threshold fall rise starts.Up) (events.Pass ∷ heard) ≡ (if nat_lt count fall then 0 else (if nat_lt (count + 1) (fall + rise) then count + 1 else 0)) =
    memory_more (Threshold fall rise starts.Up) events.Pass heard counts refl in
    let none = more ∙ ap (λ b. if b then 0 else (if nat_lt (count + 1) (fall + rise) then count + 1 else 0)) (lt-ltb count fall high) in
    omega (arith, none, counts.0)
high_more (Threshold fall rise start) events.Fail heard counts fit stays high =
    let count = count_after (Threshold fall rise starts.Up) heard in
    let more : count_after (Threshold fall rise starts.Up) (events.Fail ∷ heard) ≡ min fall (count + 1) =
    memory_more (Threshold fall rise starts.Up) events.Fail heard counts refl in
    let row : count ≡ prefix_len is_fail heard = count_fails fall heard (is_down fall rise heard) high in
    omega (arith, more, row, short_row fall (prefix_len is_fail heard) stays)
high_more (Threshold fall rise start) events.Up heard counts fit stays high = absurd (false≢true fit)
high_more (Threshold fall rise start) events.Down heard counts fit stays high = absurd (false≢true fit)
high_more Manual events.Pass heard counts fit stays high = absurd (false≢true fit)
high_more Manual events.Fail heard counts fit stays high = absurd (false≢true fit)
high_more Manual events.Up heard counts fit stays high = refl
high_more Manual events.Down heard counts fit stays high = absurd (false≢true (sym stays))
high_more (Depends mask) event heard counts fit stays high = tt

-- an entry with an event of a slot has the reply to this event
reply_event : (i : ℕ) (older : List Entry) (call : Call) (event : Event) → event_for i call ≡ Some event → reply_to older call ≡ reply_to_event (rule_at older i) (is_shut older) event
reply_event i older (Register slot rule) event is = let no : None ≡ Some event = is in absurd (cc)
reply_event i older (Retire slot) event is = let no : None ≡ Some event = is in absurd (cc)
reply_event i older (Observe slot finding) event is = by_slot (slot == i) refl is
  where
    by_slot : (b : Bool) → (slot == i) ≡ b → (if b then Some (event_of_finding finding) else None) ≡ Some event
        → reply_to_event (rule_at older slot) (is_shut older) (event_of_finding finding) ≡ reply_to_event (rule_at older i) (is_shut older) event
    by_slot true at now =
        let same : event_of_finding finding ≡ event = cc in
        ap (λ s. reply_to_event (rule_at older s) (is_shut older) (event_of_finding finding)) (eqb-true slot i at)
        ∙ ap (reply_to_event (rule_at older i) (is_shut older)) same
    by_slot false at now = let no : None ≡ Some event = now in absurd (cc)
reply_event i older (Set slot setting) event is = by_slot (slot == i) refl is
  where
    by_slot : (b : Bool) → (slot == i) ≡ b → (if b then Some (event_of_setting setting) else None) ≡ Some event
        → reply_to_event (rule_at older slot) (is_shut older) (event_of_setting setting) ≡ reply_to_event (rule_at older i) (is_shut older) event
    by_slot true at now =
        let same : event_of_setting setting ≡ event = cc in
        ap (λ s. reply_to_event (rule_at older s) (is_shut older) (event_of_setting setting)) (eqb-true slot i at)
        ∙ ap (reply_to_event (rule_at older i) (is_shut older)) same
    by_slot false at now = let no : None ≡ Some event = now in absurd (cc)
reply_event i older Shutdown event is = let no : None ≡ Some event = is in absurd (cc)
reply_event i older Resume event is = let no : None ≡ Some event = is in absurd (cc)

-- an event was answered Done, and is heard, or is not heard
heard_or_not : (rule : Rule) (shut : Bool) (event : Event) (heard : List Event) (reply : Reply) → reply ≡ reply_to_event (Some rule) shut event
    → ((is_done reply ≡ true) × (fits rule event ≡ true) × (with_event rule shut (Some event) heard ≡ event ∷ heard)) ⊎ (with_event rule shut (Some event) heard ≡ heard)
heard_or_not rule shut event heard reply is = by_fit (fits rule event) shut is refl
  where
    by_fit : (fit now : Bool) → reply ≡ (if fit then (if now then Ignored else Done) else WrongKind) → fits rule event ≡ fit
        → ((is_done reply ≡ true) × (fits rule event ≡ true) × ((if not now && fits rule event then event ∷ heard else heard) ≡ event ∷ heard))
        ⊎ ((if not now && fits rule event then event ∷ heard else heard) ≡ heard)
    by_fit true true said fit_is = inr refl
    by_fit true false said fit_is = inl (ap is_done said, fit_is, ap (λ b. if b then event ∷ heard else heard) fit_is)
    by_fit false true said fit_is = inr refl
    by_fit false false said fit_is = inr (ap (λ b. if b then event ∷ heard else heard) fit_is)

-- an entry whose event was heard takes its slot down where the event does
takes_turns : (rule : Rule) (i : ℕ) (entry : Entry) (older : List Entry) (event : Event) → event_for i entry.call ≡ Some event → is_done entry.reply ≡ true
    → heard (entry ∷ older) i rule ≡ event ∷ heard older i rule → takes_down rule i entry older ≡ turns_down rule event (heard older i rule)
unfolding turns_down
takes_turns (Threshold fall rise start) i entry older event brings_it done more =
    ap (λ o. brings is_fail o && (is_done entry.reply && nat_le fall (fails_in_row (entry ∷ older) i (Threshold fall rise start)))) brings_it
    ∙ ap (λ b. is_fail event && (b && nat_le fall (fails_in_row (entry ∷ older) i (Threshold fall rise start)))) done
    ∙ ap (λ es. is_fail event && nat_le fall (prefix_len is_fail es)) more
takes_turns Manual i entry older event brings_it done more =
    ap (λ o. brings (λ e. not (is_up_setting e)) o && is_done entry.reply) brings_it ∙ ap (λ b. not (is_up_setting event) && b) done ∙ and_true (not (is_up_setting event))
takes_turns (Depends mask) i entry older event brings_it done more = refl

-- a slot of this rule has heard nothing
abbrev HasHeardNone : ℕ → Rule → List Entry → Type 0
HasHeardNone i rule entries = IsLegal entries × (rule_at entries i ≡ Some rule) × (is_empty (heard entries i rule) ≡ true)

-- so it has heard nothing since it last forgot
unheard_outlasts : (i : ℕ) (rule : Rule) → Outlasts (forgets_all i) (is_heard i) (HasHeardNone i rule)
unfolding Outlasts
unheard_outlasts i rule entry older this holds =
    by_event (event_for i entry.call) refl (sym same ∙ holds.2)
  where
    here : rule_at older i ≡ Some rule
    here = rule_older i rule entry.call (last_said (says_rule i) older) this holds.1

    same : is_empty (heard (entry ∷ older) i rule) ≡ is_empty (with_event rule (is_shut older) (event_for i entry.call) (heard older i rule))
    same = ap (λ b. is_empty (if b then [] else with_event rule (is_shut older) (event_for i entry.call) (heard older i rule))) this

    not_done : (shut : Bool) (event : Event) (reply : Reply) → reply ≡ reply_to_event (Some rule) shut event
        → is_empty (with_event rule shut (Some event) (heard older i rule)) ≡ true → (is_done reply ≡ false) × (is_empty (heard older i rule) ≡ true)
    not_done shut event reply replied none = by_fit (fits rule event) shut replied none
      where
        by_fit : (fit now : Bool) → reply ≡ (if fit then (if now then Ignored else Done) else WrongKind)
            → is_empty (if not now && fit then event ∷ heard older i rule else heard older i rule) ≡ true → (is_done reply ≡ false) × (is_empty (heard older i rule) ≡ true)
        by_fit true true said left = (ap is_done said, left)
        by_fit true false said left = absurd (false≢true left)
        by_fit false true said left = (ap is_done said, left)
        by_fit false false said left = (ap is_done said, left)

    by_event : (event : Option Event) → event_for i entry.call ≡ event → is_empty (with_event rule (is_shut older) event (heard older i rule)) ≡ true
        → ((is_some event && is_done entry.reply) ≡ false) × HasHeardNone i rule older
    by_event None is none = (refl, (holds.0.0, here, none))
    by_event (Some event) is none =
        let replied : entry.reply ≡ reply_to_event (Some rule) (is_shut older) event =
        holds.0.1 ∙ reply_event i older entry.call event is ∙ ap (λ o. reply_to_event o (is_shut older) event) here in
        let both = not_done (is_shut older) event entry.reply replied none in
        (both.0, (holds.0.0, here, both.1))

-- a slot that no entry took down since it last forgot what it heard is up
never_down : (entries : List Entry) (i : ℕ) (rule : Rule) → IsLegal entries → HasCounts rule → rule_at entries i ≡ Some rule → down_since entries i rule ≡ None
    → IsHigh rule (heard entries i rule)
never_down [] i rule legal counts here none = high_first rule counts
never_down (entry ∷ older) i rule legal counts here none =
    by_forgets (forgets i entry.call) refl both.1 (λ here' none'. never_down older i rule legal.0 counts here' none')
  where
    both : (takes_down rule i entry older ≡ false) × ((if forgets i entry.call then None else down_since older i rule) ≡ None)
    both = not_this (takes_down rule i entry older) (length older) (if forgets i entry.call then None else down_since older i rule) none

    by_event : (event : Option Event) → event_for i entry.call ≡ event → heard (entry ∷ older) i rule ≡ with_event rule (is_shut older) event (heard older i rule)
        → rule_at older i ≡ Some rule → IsHigh rule (heard older i rule) → IsHigh rule (with_event rule (is_shut older) event (heard older i rule))
    by_event None is same here' high = high
    by_event (Some event) is same here' high =
        let replied : entry.reply ≡ reply_to_event (Some rule) (is_shut older) event =
        legal.1 ∙ reply_event i older entry.call event is ∙ ap (λ o. reply_to_event o (is_shut older) event) here' in
        elim (heard_or_not rule (is_shut older) event (heard older i rule) entry.reply replied) as (λ _. IsHigh rule (with_event rule (is_shut older) (Some event) (heard older i rule))) [
          | inl now ↦
              let stays = sym (takes_turns rule i entry older event is now.0 (same ∙ now.2)) ∙ both.0 in
              subst (IsHigh rule) (sym now.2) (high_more rule event (heard older i rule) counts now.1 stays high)
          | inr not_now ↦ subst (IsHigh rule) (sym not_now) high
        ]

    by_forgets : (b : Bool) → forgets i entry.call ≡ b → (if b then None else down_since older i rule) ≡ None
        → (rule_at older i ≡ Some rule → down_since older i rule ≡ None → IsHigh rule (heard older i rule))
        → IsHigh rule (if b then [] else with_event rule (is_shut older) (event_for i entry.call) (heard older i rule))
    by_forgets true is rest before = high_first rule counts
    by_forgets false is rest before =
        let here' = rule_older i rule entry.call (last_said (says_rule i) older) is here in
        let same : heard (entry ∷ older) i rule ≡ with_event rule (is_shut older) (event_for i entry.call) (heard older i rule) =
        ap (λ b. if b then [] else with_event rule (is_shut older) (event_for i entry.call) (heard older i rule)) is in
        by_event (event_for i entry.call) refl same here' (before here' rest)

-- each cause names an entry
pub reason_names : (kept : Option ℕ) (entries : List Entry) (i : ℕ) → IsLegal entries → NamesEntries kept entries i (reason_at kept entries i)
reason_names kept entries i legal = by_rule (rule_at entries i) refl
  where
    covers : ℕ → Bool
    covers = all_serving entries i

    covered : covers 0 ≡ true
    covered = all_serving-covers entries i 0 ∙ covers-nothing (status_at entries) i

    absent : rule_at entries i ≡ None → (place : Option ℕ) → newest (retires i) entries ≡ place → NamesEntries kept entries i (absent_by kept entries place)
    absent at None is = tt
    absent at (Some place) is =
        newest_named kept (retires i) (λ entry. registers i entry.call) (IsAbsent i) (retired_outlasts i) entries place (legal, at) is

    empty_of : (b empty : Bool) → (b && empty) ≡ true → empty ≡ true
    empty_of true empty is = is
    empty_of false empty is = absurd (false≢true is)

    unheard : (rule : Rule) → rule_at entries i ≡ Some rule → is_empty (heard entries i rule) ≡ true → (place : Option ℕ) → newest (forgets_all i) entries ≡ place
        → IsNamed kept entries (forgets_all i) (is_heard i) (named kept entries place)
    unheard rule at none None is = absurd (never_begun entries i rule is at)
    unheard rule at none (Some place) is =
        newest_named kept (forgets_all i) (is_heard i) (HasHeardNone i rule) (unheard_outlasts i rule) entries place
        (legal, at, none) is

    shut_by : is_shut entries ≡ true → (place : Option ℕ) → newest shuts entries ≡ place → IsNamed kept entries shuts (λ entry. resumes entry.call) (named kept entries place)
    shut_by shut None is = absurd (false≢true (sym (never_shut entries is) ∙ shut))
    shut_by shut (Some place) is = newest_named kept shuts (λ entry. resumes entry.call) (λ es. is_shut es ≡ true) shut_outlasts entries place shut is

    down : (rule : Rule) → rule_at entries i ≡ Some rule → is_up rule (heard entries i rule) ≡ false → (place : Option ℕ) → down_since entries i rule ≡ place
        → TookDown kept entries i (named kept entries place)
    down rule at low None is =
        absurd (false≢true (sym low ∙ high_up rule (heard entries i rule) (never_down entries i rule legal (rule_counts entries i rule legal at) at is)))
    down rule at low (Some place) is =
        subst (λ o. IsNamed kept entries (took_down o i) (λ entry. forgets i entry.call) (named kept entries (Some place))) (sym at)
        (newest_named kept (takes_down rule i) (λ entry. forgets i entry.call) (λ es. newest_since i (takes_down rule i) es ≡ Some place) (since_outlasts i (takes_down rule i) place)
        entries place is (since_newest i (takes_down rule i) entries place is))

    depends : (slot : Option ℕ) → NamesEntries kept entries i (depends_by slot)
    depends None = tt
    depends (Some slot) = tt

    low_by : (up : Bool) → (up && covers 0) ≡ false → up ≡ false
    low_by true is = absurd (false≢true (sym is ∙ covered))
    low_by false is = refl

    down_names : (rule : Rule) → rule_at entries i ≡ Some rule → (is_up rule (heard entries i rule) && covers (relied_on rule)) ≡ false
        → NamesEntries kept entries i (down_by kept entries i rule)
    down_names (Threshold fall rise start) at low =
        down (Threshold fall rise start) at (low_by (is_up (Threshold fall rise start) (heard entries i (Threshold fall rise start))) low)
        (down_since entries i (Threshold fall rise start)) refl
    down_names Manual at low = down Manual at (low_by (is_up Manual (heard entries i Manual)) low) (down_since entries i Manual) refl
    down_names (Depends mask) at low = depends (first_down (status_at entries) mask 16)

    by_serving : (rule : Rule) → rule_at entries i ≡ Some rule → is_shut entries ≡ false → (b : Bool) → (is_up rule (heard entries i rule) && covers (relied_on rule)) ≡ b
        → NamesEntries kept entries i (reason_by kept entries i (Some (serving_if b)))
    by_serving rule at not_shut true is = tt
    by_serving rule at not_shut false is =
        let reason : not_serving_by kept entries i (rule_at entries i) ≡ down_by kept entries i rule =
        ap (not_serving_by kept entries i) at ∙ ap (λ b. if b then reasons.ShutDown (named kept entries (newest shuts entries)) else down_by kept entries i rule) not_shut in
        subst (NamesEntries kept entries i) (sym reason) (down_names rule at is)

    by_unknown : (rule : Rule) → rule_at entries i ≡ Some rule → is_shut entries ≡ false → (unknown : Bool) → is_unknown rule (heard entries i rule) ≡ unknown
        → NamesEntries kept entries i (reason_by kept entries i (Some (if unknown then Unknown else serving_if (is_up rule (heard entries i rule) && covers (relied_on rule)))))
    by_unknown rule at not_shut true is = unheard rule at (empty_of (starts_unknown rule) (is_empty (heard entries i rule)) is) (newest (forgets_all i) entries) refl
    by_unknown rule at not_shut false is = by_serving rule at not_shut (is_up rule (heard entries i rule) && covers (relied_on rule)) refl

    by_shut : (rule : Rule) → rule_at entries i ≡ Some rule → (shut : Bool) → is_shut entries ≡ shut
        → NamesEntries kept entries i (reason_by kept entries i (Some (if shut then NotServing else opinion covers (heard entries i rule) rule)))
    by_shut rule at true shut =
        let reason : not_serving_by kept entries i (rule_at entries i) ≡ reasons.ShutDown (named kept entries (newest shuts entries)) =
        ap (not_serving_by kept entries i) at ∙ ap (λ b. if b then reasons.ShutDown (named kept entries (newest shuts entries)) else down_by kept entries i rule) shut in
        subst (NamesEntries kept entries i) (sym reason) (shut_by shut (newest shuts entries) refl)
    by_shut rule at false shut = by_unknown rule at shut (is_unknown rule (heard entries i rule)) refl

    by_rule : (o : Option Rule) → rule_at entries i ≡ o → NamesEntries kept entries i (reason_by kept entries i (status_by covers entries i o))
    by_rule None at = absent at (newest (retires i) entries) refl
    by_rule (Some rule) at = by_shut rule at (is_shut entries) refl

-- a cause that names an entry stands in the history, and is told as forgotten where it is
pub cause_told : (kept : Option ℕ) (entries : List Entry) (kind : Entry → List Entry → Bool) (undoes : Entry → Bool) (cause : Cause) → IsNamed kept entries kind undoes cause
    → (cause.place < length entries) × ((cause.is_kept ≡ false) ↔ (cause.place < forgotten kept (length entries)))
cause_told kept entries kind undoes cause is =
    let place : cause.place ≡ length is.older = ap (λ c. c.place) is.cause_is in
    let told : cause.is_kept ≡ nat_le (forgotten kept (length entries)) (length is.older) = ap (λ c. c.is_kept) is.cause_is in (
      omega (arith, place, ap length is.parts, length-append is.newer (is.entry ∷ is.older)),
      (
        λ gone. omega (arith, place, leb-false (forgotten kept (length entries)) (length is.older) (sym told ∙ gone)),
        λ below. told ∙ lt-leb (forgotten kept (length entries)) (length is.older) (omega (arith, place, below)),
      ),
    )
