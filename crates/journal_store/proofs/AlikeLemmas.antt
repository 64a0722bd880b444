-- What alike histories have in common.
use Rattle.std.proofs.Common.{◌≡◌, ℕ, zero, suc, ◌+◌, ◌&&◌, ◌||◌, not, if◌then◌else◌, Bool, true, false, Option, None, Some, unwrap_or, is_some}
use Rattle.std.proofs.Common.{List, [], ◌∷◌, ◌++◌, length, Result, refl, sym, ap, subst, ◌∙◌, arith, append_assoc, length-append}
use Rattle.std.proofs.lemmas.List.{append-nil}
use Rattle.std.specs.Option.{option_map, option_or}
use Rattle.health_wire.specs.declared.serving.Serving.TheVariants.{Unknown, NotServing, ServiceUnknown}
use Rattle.probe_core.specs.declared.event.Event.{Event}
use Rattle.probe_core.specs.declared.rule.Rule.{Rule}
use Rattle.probe_core.specs.Rule.{HasCounts, fits, is_unknown_at, is_up_at, relied_on}
use Rattle.probe_core.specs.Events.{all_fit, is_unknown, is_up, memory_after}
use Rattle.probe_core.proofs.EventLemmas.{memory_tells, memory_unknown}
use Rattle.desk_core.specs.declared.call.Call.{Call}
use Rattle.desk_core.specs.declared.call.Call.TheVariants.{Register, Retire, Observe, Set, Shutdown, Resume}
use Rattle.desk_core.specs.declared.change.Change.{Change}
use Rattle.desk_core.specs.declared.entry.Entry.{Entry}
use Rattle.desk_core.specs.declared.refusal.Refusal.{Refusal}
use Rattle.desk_core.specs.declared.reply.Reply.{Reply}
use Rattle.desk_core.specs.declared.reply.Reply.TheVariants.{Done, Replaced, Missing}
use Rattle.desk_core.specs.Changes.{changed, changes_of, shown_at}
use Rattle.desk_core.specs.Heard.{heard, with_event, forgets, event_for, event_of_finding, event_of_setting}
use Rattle.desk_core.specs.Legal.{IsLegal}
use Rattle.desk_core.specs.Mutation.{AreAnswered, IsAnswered, entry_of}
use Rattle.desk_core.specs.Mutation.AreAnswered.{Ends, Then}
use Rattle.desk_core.specs.Mutation.IsAnswered.{Taken, NotListed, BadRule, Full, NoMemory, NotStored}
use Rattle.desk_core.specs.Past.{last_said}
use Rattle.desk_core.specs.Present.{rule_at}
use Rattle.desk_core.specs.Reply.{reply_to, reply_to_event}
use Rattle.desk_core.specs.Shut.{is_shut, says_shut}
use Rattle.desk_core.specs.Slots.{opinion_at, status_from}
use Rattle.desk_core.specs.Status.{all_serving, checked, has_slot, is_serving, opinion, serving_if, shown, status_at, status_by}
use Rattle.desk_core.specs.Desk.{probe_at}
use Rattle.desk_core.proofs.ChangeLemmas.{changed_same}
use Rattle.desk_core.proofs.HistoryLemmas.{rule_of_probe}
use Rattle.desk_core.proofs.LawfulLemmas.{rule_counts}
use Rattle.journal_store.specs.Alike.{Answers, AreAlike, StandAlike}
use Rattle.journal_store.specs.Next.{probe_next}
use Rattle.journal_store.proofs.ProbeLemmas.{probe_step}

pub alike_turned : (one other : List Entry) → AreAlike one other → AreAlike other one
alike_turned one other alike = record { probes = λ i. sym (alike.probes i); shut = sym alike.shut }

pub alike_itself : (one : List Entry) → AreAlike one one
alike_itself one = record { probes = λ i. refl; shut = refl }

pub alike_joined : (one other third : List Entry) → AreAlike one other → AreAlike other third → AreAlike one third
alike_joined one other third first second = record { probes = λ i. first.probes i ∙ second.probes i; shut = first.shut ∙ second.shut }

-- the same rules are in force
rule_same : (one other : List Entry) (i : ℕ) → AreAlike one other → rule_at one i ≡ rule_at other i
rule_same one other i alike =
    sym (rule_of_probe one i) ∙ ap (option_map (λ (state : Rule × ℕ). state.0)) (alike.probes i) ∙ rule_of_probe other i

event_same : (one other : List Entry) (slot : ℕ) (event : Event) → AreAlike one other
    → reply_to_event (rule_at one slot) (is_shut one) event ≡ reply_to_event (rule_at other slot) (is_shut other) event
event_same one other slot event alike =
    ap (λ o. reply_to_event o (is_shut one) event) (rule_same one other slot alike)
    ∙ ap (λ b. reply_to_event (rule_at other slot) b event) alike.shut

-- each change is answered the same
pub reply_same : (one other : List Entry) (call : Call) → AreAlike one other → reply_to one call ≡ reply_to other call
reply_same one other (Register slot rule) alike = ap (λ o. if is_some o then Replaced else Done) (rule_same one other slot alike)
reply_same one other (Retire slot) alike = ap (λ o. if is_some o then Done else Missing) (rule_same one other slot alike)
reply_same one other (Observe slot finding) alike = event_same one other slot (event_of_finding finding) alike
reply_same one other (Set slot setting) alike = event_same one other slot (event_of_setting setting) alike
reply_same one other Shutdown alike = refl
reply_same one other Resume alike = refl

shut_said : (said : Option Bool) (one other : List Entry) → is_shut one ≡ is_shut other
    → unwrap_or (option_or said (last_said says_shut one)) false ≡ unwrap_or (option_or said (last_said says_shut other)) false
shut_said None one other same = same
shut_said (Some shut) one other same = refl

-- one more entry
pub alike_step : (entry : Entry) (one other : List Entry) → AreAlike one other → IsLegal one → IsLegal other → AreAlike (entry ∷ one) (entry ∷ other)
alike_step entry one other alike legal too = record {
  probes = λ i. probe_step entry one i legal
      ∙ ap (probe_next (is_shut one) i entry.call) (alike.probes i)
      ∙ ap (λ b. probe_next b i entry.call (probe_at other i)) alike.shut
      ∙ sym (probe_step entry other i too);
  shut = shut_said (says_shut entry.call) one other alike.shut;
}

-- newer entries
pub alike_later : (newer one other : List Entry) → AreAlike one other → IsLegal (newer ++ one) → IsLegal other → IsLegal (newer ++ other) × AreAlike (newer ++ one) (newer ++ other)
alike_later [] one other alike legal too = (too, alike)
alike_later (entry ∷ newer) one other alike legal too =
    let before = alike_later newer one other alike legal.0 too in (
      (before.0, legal.1 ∙ reply_same (newer ++ one) (newer ++ other) entry.call before.1, legal.2),
      alike_step entry (newer ++ one) (newer ++ other) before.1 legal.0 before.0,
    )

-- one more event keeps what was heard to what fits
fits_with : (rule : Rule) (events : List Event) (b : Bool) (event : Option Event) (shut : Bool) → all_fit rule events ≡ true → all_fit rule (if b then [] else with_event rule shut event events) ≡ true
fits_with rule events true event shut until = refl
fits_with rule events false None shut until = until
fits_with rule events false (Some event) true until = until
fits_with rule events false (Some event) false until = by_fit (fits rule event) refl
  where
    by_fit : (fit : Bool) → fits rule event ≡ fit → all_fit rule (if fit then event ∷ events else events) ≡ true
    by_fit true is = ap (λ b. b && all_fit rule events) is ∙ until
    by_fit false is = until

-- what was heard fits
pub heard_fits : (entries : List Entry) (i : ℕ) (rule : Rule) → all_fit rule (heard entries i rule) ≡ true
heard_fits [] i rule = refl
heard_fits (entry ∷ older) i rule = fits_with rule (heard older i rule) (forgets i entry.call) (event_for i entry.call) (is_shut older) (heard_fits older i rule)

same_opinion : (unknown up covered : Bool) → (if unknown then Unknown else serving_if ((up && not unknown) && covered)) ≡ (if unknown then Unknown else serving_if (up && covered))
same_opinion true up covered = refl
same_opinion false true covered = refl
same_opinion false false covered = refl

-- a memory tells what its rule says of the events
by_memory : (covers : ℕ → Bool) (rule : Rule) (events : List Event) → HasCounts rule → all_fit rule events ≡ true
    → opinion_at covers rule (memory_after rule events) ≡ opinion covers events rule
by_memory covers rule events counts fit =
    ap (λ b. if b then Unknown else serving_if (is_up_at rule (memory_after rule events) && covers (relied_on rule))) (memory_unknown rule events counts fit)
    ∙ ap (λ b. if is_unknown rule events then Unknown else serving_if (b && covers (relied_on rule))) (memory_tells rule events counts fit)
    ∙ same_opinion (is_unknown rule events) (is_up rule events) (covers (relied_on rule))

-- the probe of a slot gives its status
by_probe : (covers : ℕ → Bool) (entries : List Entry) (i : ℕ) → IsLegal entries
    → option_map (status_from covers (is_shut entries)) (probe_at entries i) ≡ status_by covers entries i (rule_at entries i)
by_probe covers entries i legal = by_rule (rule_at entries i) refl
  where
    by_rule : (o : Option Rule) → rule_at entries i ≡ o
        → option_map (status_from covers (is_shut entries)) (option_map (λ rule. (rule, memory_after rule (heard entries i rule))) o) ≡ status_by covers entries i o
    by_rule None is = refl
    by_rule (Some rule) is =
        ap (λ status. Some (if is_shut entries then NotServing else status))
        (by_memory covers rule (heard entries i rule) (rule_counts entries i rule legal is) (heard_fits entries i rule))

covers_same : (a b : ℕ → Bool) (shut : Bool) (probe : Option (Rule × ℕ)) → ((mask : ℕ) → a mask ≡ b mask)
    → option_map (status_from a shut) probe ≡ option_map (status_from b shut) probe
covers_same a b shut None same = refl
covers_same a b shut (Some state) same =
    ap (λ covered. Some (if shut then NotServing else (if is_unknown_at state.0 state.1 then Unknown else serving_if (is_up_at state.0 state.1 && covered))))
    (same (relied_on state.0))

status_step : (one other : List Entry) (i : ℕ) → AreAlike one other → IsLegal one → IsLegal other → ((mask : ℕ) → all_serving one i mask ≡ all_serving other i mask)
    → status_at one i ≡ status_at other i
status_step one other i alike legal too same =
    sym (by_probe (all_serving one i) one i legal)
    ∙ ap (option_map (status_from (all_serving one i) (is_shut one))) (alike.probes i)
    ∙ ap (λ b. option_map (status_from (all_serving one i) b) (probe_at other i)) alike.shut
    ∙ covers_same (all_serving one i) (all_serving other i) (is_shut other) (probe_at other i) same
    ∙ by_probe (all_serving other i) other i too

-- the same masks are covered
serving_same : (one other : List Entry) (n mask : ℕ) → AreAlike one other → IsLegal one → IsLegal other → all_serving one n mask ≡ all_serving other n mask
unfolding all_serving
serving_same one other zero mask alike legal too = refl
serving_same one other (suc n) mask alike legal too =
    ap (λ b. b && (not (has_slot mask n) || is_serving (status_at one n))) (serving_same one other n mask alike legal too)
    ∙ ap (λ status. all_serving other n mask && (not (has_slot mask n) || is_serving status))
    (status_step one other n alike legal too (λ m. serving_same one other n m alike legal too))

-- each slot has the same status
pub status_same : (one other : List Entry) (i : ℕ) → AreAlike one other → IsLegal one → IsLegal other → status_at one i ≡ status_at other i
status_same one other i alike legal too = status_step one other i alike legal too (λ mask. serving_same one other i mask alike legal too)

pub checked_same : (one other : List Entry) (slot : Option ℕ) → AreAlike one other → IsLegal one → IsLegal other → checked one slot ≡ checked other slot
checked_same one other None alike legal too = refl
checked_same one other (Some i) alike legal too = status_same one other i alike legal too

pub shown_same : (one other : List Entry) (slot : Option ℕ) → AreAlike one other → IsLegal one → IsLegal other → shown one slot ≡ shown other slot
shown_same one other slot alike legal too = ap (λ status. unwrap_or status ServiceUnknown) (checked_same one other slot alike legal too)

-- an entry changes the same statuses
pub entry_changes : (one other : List Entry) (entry : Entry) (at : ℕ) → AreAlike one other → IsLegal (entry ∷ one) → IsLegal other
    → changed at (shown_at one) (shown_at (entry ∷ one)) 16 ≡ changed at (shown_at other) (shown_at (entry ∷ other)) 16
entry_changes one other entry at alike legal too =
    let later = alike_later (entry ∷ []) one other alike legal too in
    changed_same at 16 (shown_at one) (shown_at (entry ∷ one)) (shown_at other) (shown_at (entry ∷ other))
    (λ i below. shown_same one other (Some i) alike legal.0 too)
    (λ i below. shown_same (entry ∷ one) (entry ∷ other) (Some i) later.1 legal later.0)

-- newer entries add the same changes to the lists of histories of one length
pub newer_changes : (newer one other : List Entry) → AreAlike one other → IsLegal (newer ++ one) → IsLegal other → length one ≡ length other
    → (more : List Change) × (changes_of (newer ++ one) ≡ changes_of one ++ more) × (changes_of (newer ++ other) ≡ changes_of other ++ more)
newer_changes [] one other alike legal too long = ([], sym (append-nil (changes_of one)), sym (append-nil (changes_of other)))
newer_changes (entry ∷ newer) one other alike legal too long =
    let until = newer_changes newer one other alike legal.0 too long in
    let before = alike_later newer one other alike legal.0 too in
    let at : length (newer ++ one) ≡ length (newer ++ other) = length-append newer one ∙ ap (λ n. length newer + n) long ∙ sym (length-append newer other) in
    let added : List Change = changed (length (newer ++ one)) (shown_at (newer ++ one)) (shown_at (entry ∷ (newer ++ one))) 16 in
    let same : added ≡ changed (length (newer ++ other)) (shown_at (newer ++ other)) (shown_at (entry ∷ (newer ++ other))) 16 =
    entry_changes (newer ++ one) (newer ++ other) entry (length (newer ++ one)) before.1 legal before.0
    ∙ ap (λ n. changed n (shown_at (newer ++ other)) (shown_at (entry ∷ (newer ++ other))) 16) at in (
      until.0 ++ added,
      ap (λ cs. cs ++ added) until.1 ∙ append_assoc (changes_of one) until.0 added,
      ap (λ cs. changes_of (newer ++ other) ++ cs) (sym same) ∙ ap (λ cs. cs ++ added) until.2 ∙ append_assoc (changes_of other) until.0 added,
    )

pub stand_same : (most : ℕ) (one other : List Entry) → AreAlike one other → IsLegal one → IsLegal other → length one ≡ length other → StandAlike most one most other
stand_same most one other alike legal too long = record { alike = alike; legal = (legal, too); room = ap (λ n. most + n) (sym long) }

stays : (most size : ℕ) (one other after : List Entry) → StandAlike most one size other → after ≡ one → StandAlike most after size other
stays most size one other after stand same = let P : List Entry → Type 0 = λ entries. StandAlike most entries size other in subst P (sym same) stand

grows : (most size : ℕ) (one other after : List Entry) (entry : Entry) → StandAlike most one size other → IsLegal (entry ∷ one) → after ≡ entry ∷ one
    → StandAlike most after size (entry ∷ other)
grows most size one other after entry stand legal same =
    let later = alike_later (entry ∷ []) one other stand.alike legal stand.legal.1 in
    let P : List Entry → Type 0 = λ entries. StandAlike most entries size (entry ∷ other) in
    subst P (sym same) (record { alike = later.1; legal = (legal, later.0); room = omega (arith, stand.room) })

-- registries that stand alike answer a change alike
pub answered_same : {most seat : ℕ} {one after : List Entry} {call : Option Call} {result : Result Reply Refusal} → (size : ℕ) (other : List Entry) → StandAlike most one size other
    → IsAnswered most seat one after call result
    → (later : List Entry) × IsAnswered size seat other later call result × StandAlike most after size later
answered_same {most = most} {seat = seat} {one = one} {after = after} size other stand (Taken call reply lawful room is grown) =
    let entry : Entry = entry_of seat call reply in (
      entry ∷ other,
      Taken call reply lawful (omega (arith, room, stand.room)) (is ∙ reply_same one other call stand.alike) refl,
      grows most size one other after entry stand (stand.legal.0, is, lawful) grown,
    )
answered_same {most = most} {one = one} {after = after} size other stand (NotListed same) =
    (other, NotListed refl, stays most size one other after stand same)
answered_same {most = most} {one = one} {after = after} size other stand (BadRule call unlawful same) =
    (other, BadRule call unlawful refl, stays most size one other after stand same)
answered_same {most = most} {one = one} {after = after} size other stand (Full call lawful full same) =
    (other, Full call lawful (omega (arith, full, stand.room)) refl, stays most size one other after stand same)
answered_same {most = most} {one = one} {after = after} size other stand (NoMemory call lawful room same) =
    (other, NoMemory call lawful (omega (arith, room, stand.room)) refl, stays most size one other after stand same)
answered_same {most = most} {one = one} {after = after} size other stand (NotStored call lawful room same) =
    (other, NotStored call lawful (omega (arith, room, stand.room)) refl, stays most size one other after stand same)

-- they answer all later changes alike
pub all_answered : {most : ℕ} {one after : List Entry} {calls : List (Option Call)} {results : List (Result Reply Refusal)} → (size : ℕ) (other : List Entry)
    → StandAlike most one size other → AreAnswered (Answers most) one after calls results
    → (later : List Entry) × AreAnswered (Answers size) other later calls results × StandAlike most after size later
all_answered size other stand (Ends state) = (other, Ends other, stand)
all_answered size other stand (Then old between new call result calls results first rest) =
    let next = answered_same size other stand first.1 in
    let all = all_answered size next.0 next.2 rest in
    (all.0, Then other next.0 all.0 call result calls results (first.0, next.1) all.1, all.2)
