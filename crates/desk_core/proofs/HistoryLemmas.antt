use Rattle.std.proofs.Common.{◌≡◌, ℕ, ◌^◌, ◌<◌, ◌==◌, ◌&&◌, not, if◌then◌else◌, Bool, true, false, Option, None, Some, unwrap_or, List, [], ◌∷◌, ◌++◌}
use Rattle.std.proofs.Common.{length, zero, suc, map, get_or, set, inl, inr, refl, sym, ap, subst, ◌∙◌, arith}
use Rattle.std.specs.Option.{option_map, option_or}
use Rattle.std.proofs.lemmas.List.{reverse-append, length_push, get_or-set_same, get_or-set_other, set_past, get_or_past}
use Rattle.std.proofs.lemmas.Bool.{eqb-true, eqb-false, cases_lt}
use Rattle.probe_core.specs.declared.event.Event.{Event}
use Rattle.probe_core.specs.declared.rule.Rule.{Rule}
use Rattle.probe_core.specs.Rule.{HasCounts, fits, memory_next, opening_memory}
use Rattle.probe_core.proofs.EventLemmas.{memory_opens, memory_more}
use Rattle.desk_core.proofs.LawfulLemmas.{rule_counts}
use Rattle.probe_core.specs.Events.{memory_after}
use Rattle.desk_core.specs.declared.call.Call.{Call}
use Rattle.desk_core.specs.declared.call.Call.TheVariants.{Register, Retire, Observe, Set, Shutdown, Resume}
use Rattle.desk_core.specs.declared.entry.Entry.{Entry}
use Rattle.desk_core.specs.declared.reply.Reply.{Reply}
use Rattle.desk_core.specs.declared.reply.Reply.TheVariants.{Done, Replaced, Missing, WrongKind, Ignored}
use Rattle.desk_core.specs.Past.{past, last_said}
use Rattle.desk_core.specs.Shut.{says_shut, is_shut}
use Rattle.desk_core.specs.Present.{says_rule, rule_at, is_lawful}
use Rattle.desk_core.specs.Heard.{heard, with_event, event_of_finding, event_of_setting}
use Rattle.desk_core.specs.Reply.{reply_to, reply_to_event}
use Rattle.desk_core.specs.Legal.{IsLegal, IsLawfulCall}
use Rattle.desk_core.specs.Mutation.{entry_of}
use Rattle.desk_core.specs.Slots.{noted, was_reset, HasSame, IsHeard, IsApplied}
use Rattle.desk_core.specs.Desk.{Keeps, probe_at}

-- the newest entry stands first in the past
pub past_more : (journal : List Entry) (entry : Entry) → past (journal ++ entry ∷ []) ≡ entry ∷ past journal
past_more journal entry = reverse-append journal (entry ∷ [])

-- one more legal entry, and parts that are as it says
pub keeps_more : (slots after : List (Option (Rule × ℕ))) (shut now : Bool) (journal new : List Entry) (max_entries : ℕ) (entry : Entry)
    → Keeps slots shut journal max_entries → length journal < max_entries → new ≡ journal ++ entry ∷ []
    → entry.reply ≡ reply_to (past journal) entry.call → IsLawfulCall entry.call → now ≡ is_shut (entry ∷ past journal)
    → ((i : ℕ) → i < 16 → get_or after i None ≡ probe_at (entry ∷ past journal) i) → Keeps after now new max_entries
keeps_more slots after shut now journal new max_entries entry keeps below is reply lawful shut_is each =
    let later : past new ≡ entry ∷ past journal = ap past is ∙ past_more journal entry in
    let Legal : List Entry → Type 0 = λ entries. IsLegal entries in
    let Shut : List Entry → Type 0 = λ entries. now ≡ is_shut entries in
    let Each : List Entry → Type 0 = λ entries. (i : ℕ) → i < 16 → get_or after i None ≡ probe_at entries i in
    record {
      legal = subst Legal (sym later) (keeps.legal, reply, lawful);
      shut_is = subst Shut (sym later) shut_is;
      each = subst Each (sym later) each;
      room = omega (arith, ap length is, length_push journal entry);
      limit = keeps.limit;
    }

-- a write to one slot: that slot holds the new value, and the others what they held
pub set_cases : (xs : List (Option (Rule × ℕ))) (slot i : ℕ) (value : Option (Rule × ℕ)) → slot < length xs → get_or (set xs slot value) i None ≡ (if slot == i then value else get_or xs i None)
set_cases xs slot i value below = by_test (slot == i) refl
  where
    by_test : (b : Bool) → (slot == i) ≡ b → get_or (set xs slot value) i None ≡ (if b then value else get_or xs i None)
    by_test true is = let same : slot ≡ i = eqb-true slot i is in ap (λ k. get_or (set xs slot value) k None) (sym same) ∙ get_or-set_same xs slot value None below
    by_test false is = get_or-set_other xs slot i value None (λ same. eqb-false slot i is (sym same))

-- after a registration
pub probe_at-register : (seat slot i : ℕ) (rule : Rule) (reply : Reply) (older : List Entry)
    → probe_at (record { seat = seat; call = Register slot rule; reply = reply } ∷ older) i
    ≡ (if slot == i then Some (rule, memory_after rule []) else probe_at older i)
probe_at-register seat slot i rule reply older = by_test (slot == i)
  where
    by_test : (b : Bool) → option_map (λ r. (r, memory_after r (if b then [] else heard older i r)))
        (unwrap_or (option_or (if b then Some (Some rule) else None) (last_said (says_rule i) older)) None)
        ≡ (if b then Some (rule, memory_after rule []) else probe_at older i)
    by_test true = refl
    by_test false = refl

keeps_register : (slots after : List (Option (Rule × ℕ))) (shut : Bool) (journal new : List Entry) (max_entries seat slot : ℕ) (rule : Rule) (reply : Reply)
    → Keeps slots shut journal max_entries → length journal < max_entries → slot < length slots
    → is_lawful slot rule ≡ true → reply ≡ reply_to (past journal) (Register slot rule)
    → new ≡ journal ++ entry_of seat (Register slot rule) reply ∷ [] → after ≡ set slots slot (Some (rule, opening_memory rule))
    → Keeps after shut new max_entries
keeps_register slots after shut journal new max_entries seat slot rule reply keeps below within lawful reply_is is write =
    keeps_more slots after shut shut journal new max_entries (entry_of seat (Register slot rule) reply) keeps below is reply_is lawful keeps.shut_is
    (λ i few.
    ap (λ xs. get_or xs i None) write
    ∙ set_cases slots slot i (Some (rule, opening_memory rule)) within
    ∙ ap (λ m. if slot == i then Some (rule, m) else get_or slots i None) (sym (memory_opens rule))
    ∙ ap (λ o. if slot == i then Some (rule, memory_after rule []) else o) (keeps.each i few)
    ∙ sym (probe_at-register seat slot i rule reply (past journal)))

-- a write of a value that none becomes none: past the end nothing is written, and nothing stands there
set_by_cases : (change : Option (Rule × ℕ) → Option (Rule × ℕ)) → change None ≡ None → (xs : List (Option (Rule × ℕ))) (slot i : ℕ)
    → get_or (set xs slot (change (get_or xs slot None))) i None ≡ (if slot == i then change (get_or xs i None) else get_or xs i None)
set_by_cases change none xs slot i = by_test (slot == i) refl
  where
    by_test : (b : Bool) → (slot == i) ≡ b → get_or (set xs slot (change (get_or xs slot None))) i None ≡ (if b then change (get_or xs i None) else get_or xs i None)
    by_test true is =
        let same : slot ≡ i = eqb-true slot i is in
        ap (λ k. get_or (set xs slot (change (get_or xs slot None))) k None) (sym same)
        ∙ elim (cases_lt slot (length xs)) as (λ _. get_or (set xs slot (change (get_or xs slot None))) slot None ≡ change (get_or xs slot None)) [
          | inl within ↦ get_or-set_same xs slot (change (get_or xs slot None)) None within
          | inr past ↦
              ap (λ ys. get_or ys slot None) (set_past xs slot (change (get_or xs slot None)) past)
              ∙ get_or_past xs slot None past
              ∙ sym (ap change (get_or_past xs slot None past) ∙ none)
        ]
        ∙ ap (λ k. change (get_or xs k None)) same
    by_test false is = get_or-set_other xs slot i (change (get_or xs slot None)) None (λ same. eqb-false slot i is (sym same))

-- after a retirement
probe_at-retire : (seat slot i : ℕ) (reply : Reply) (older : List Entry)
    → probe_at (record { seat = seat; call = Retire slot; reply = reply } ∷ older) i ≡ (if slot == i then None else probe_at older i)
probe_at-retire seat slot i reply older = by_test (slot == i)
  where
    by_test : (b : Bool) → option_map (λ r. (r, memory_after r (heard older i r)))
        (unwrap_or (option_or (if b then Some None else None) (last_said (says_rule i) older)) None) ≡ (if b then None else probe_at older i)
    by_test true = refl
    by_test false = refl

-- after a resume
probe_at-resume : (seat i : ℕ) (reply : Reply) (older : List Entry) → probe_at (entry_of seat Resume reply ∷ older) i ≡ was_reset (probe_at older i)
probe_at-resume seat i reply older = by_rule (rule_at older i)
  where
    by_rule : (o : Option Rule) → option_map (λ r. (r, memory_after r [])) o ≡ was_reset (option_map (λ r. (r, memory_after r (heard older i r))) o)
    by_rule None = refl
    by_rule (Some rule) = ap (λ m. Some (rule, m)) (memory_opens rule)

-- a shutdown leaves all probes as they are
keeps_shutdown : (slots after : List (Option (Rule × ℕ))) (shut : Bool) (journal new : List Entry) (max_entries seat : ℕ) (reply : Reply)
    → Keeps slots shut journal max_entries → length journal < max_entries → reply ≡ Done
    → new ≡ journal ++ entry_of seat Shutdown reply ∷ [] → after ≡ slots
    → Keeps after true new max_entries
keeps_shutdown slots after shut journal new max_entries seat reply keeps below reply_is is same =
    keeps_more slots after shut true journal new max_entries (entry_of seat Shutdown reply) keeps below is reply_is tt refl
    (λ i few. ap (λ xs. get_or xs i None) same ∙ keeps.each i few)

-- a retirement takes one probe away
keeps_retire : (slots after : List (Option (Rule × ℕ))) (shut : Bool) (journal new : List Entry) (max_entries seat slot : ℕ) (reply : Reply)
    → Keeps slots shut journal max_entries → length journal < max_entries → reply ≡ reply_to (past journal) (Retire slot)
    → new ≡ journal ++ entry_of seat (Retire slot) reply ∷ [] → after ≡ set slots slot None
    → Keeps after shut new max_entries
keeps_retire slots after shut journal new max_entries seat slot reply keeps below reply_is is write =
    keeps_more slots after shut shut journal new max_entries (entry_of seat (Retire slot) reply) keeps below is reply_is tt keeps.shut_is
    (λ i few.
    ap (λ xs. get_or xs i None) write
    ∙ set_by_cases (λ _. None) refl slots slot i
    ∙ ap (λ o. if slot == i then None else o) (keeps.each i few)
    ∙ sym (probe_at-retire seat slot i reply (past journal)))

reset_at : (xs : List (Option (Rule × ℕ))) (i : ℕ) → get_or (map was_reset xs) i None ≡ was_reset (get_or xs i None)
reset_at [] i = refl
reset_at (x ∷ xs) zero = refl
reset_at (x ∷ xs) (suc i) = reset_at xs i

keeps_resume : (slots after : List (Option (Rule × ℕ))) (shut : Bool) (journal new : List Entry) (max_entries seat : ℕ) (reply : Reply)
    → Keeps slots shut journal max_entries → length journal < max_entries → reply ≡ Done
    → new ≡ journal ++ entry_of seat Resume reply ∷ [] → after ≡ map was_reset slots
    → Keeps after false new max_entries
keeps_resume slots after shut journal new max_entries seat reply keeps below reply_is is reset =
    keeps_more slots after shut false journal new max_entries (entry_of seat Resume reply) keeps below is reply_is tt refl
    (λ i few. ap (λ xs. get_or xs i None) reset ∙ reset_at slots i ∙ ap was_reset (keeps.each i few) ∙ sym (probe_at-resume seat i reply (past journal)))

-- the probe of a slot of this rule that heard these events
abbrev pub state_of : Rule → List Event → Rule × ℕ
state_of rule events = (rule, memory_after rule events)

abbrev states : (Rule → List Event) → Option Rule → Option (Rule × ℕ)
states events o = option_map (λ rule. state_of rule (events rule)) o

-- an event that is answered Done is heard by its slot alone
heard_done : (slot i : ℕ) (event : Event) (older : List Entry) → IsLegal older → reply_to_event (rule_at older slot) (is_shut older) event ≡ Done
    → states (λ r. with_event r (is_shut older) (if slot == i then Some event else None) (heard older i r)) (rule_at older i) ≡ (if slot == i then noted event (probe_at older i) else probe_at older i)
heard_done slot i event older legal replied = by_test (slot == i) refl
  where
    by_fit : (rule : Rule) (fit shut : Bool) → HasCounts rule → fits rule event ≡ fit
        → (if fit then (if shut then Ignored else Done) else WrongKind) ≡ Done
        → state_of rule (if not shut && fit then event ∷ heard older i rule else heard older i rule)
        ≡ (rule, memory_next rule event (memory_after rule (heard older i rule)))
    by_fit rule true true counts fit_is is = cc
    by_fit rule true false counts fit_is is = ap (λ m. (rule, m)) (memory_more rule event (heard older i rule) counts fit_is)
    by_fit rule false shut counts fit_is is = cc

    at_slot : (o : Option Rule) (shut : Bool) → rule_at older i ≡ o → reply_to_event o shut event ≡ Done
        → states (λ r. with_event r shut (Some event) (heard older i r)) o ≡ noted event (states (heard older i) o)
    at_slot None shut said is = refl
    at_slot (Some rule) shut said is = ap Some (by_fit rule (fits rule event) shut (rule_counts older i rule legal said) refl is)

    by_test : (b : Bool) → (slot == i) ≡ b → states (λ r. with_event r (is_shut older) (if b then Some event else None) (heard older i r))
        (rule_at older i) ≡ (if b then noted event (probe_at older i) else probe_at older i)
    by_test true is = let same : slot ≡ i = eqb-true slot i is in at_slot (rule_at older i) (is_shut older) refl (rw (← same) replied)
    by_test false is = refl

-- an event with another answer is heard by none
heard_by_none : (slot i : ℕ) (event : Event) (older : List Entry) → (reply_to_event (rule_at older slot) (is_shut older) event ≡ Done → ⊥)
    → states (λ r. with_event r (is_shut older) (if slot == i then Some event else None) (heard older i r)) (rule_at older i) ≡ probe_at older i
heard_by_none slot i event older replied = by_test (slot == i) refl
  where
    by_fit : (rule : Rule) (fit shut : Bool) → ((if fit then (if shut then Ignored else Done) else WrongKind) ≡ Done → ⊥)
        → state_of rule (if not shut && fit then event ∷ heard older i rule else heard older i rule) ≡ state_of rule (heard older i rule)
    by_fit rule true true not_done = refl
    by_fit rule true false not_done = absurd (not_done refl)
    by_fit rule false true not_done = refl
    by_fit rule false false not_done = refl

    at_slot : (o : Option Rule) (shut : Bool) → (reply_to_event o shut event ≡ Done → ⊥) → states (λ r. with_event r shut (Some event) (heard older i r)) o ≡ states (heard older i) o
    at_slot None shut not_done = refl
    at_slot (Some rule) shut not_done = ap Some (by_fit rule (fits rule event) shut not_done)

    by_test : (b : Bool) → (slot == i) ≡ b → states (λ r. with_event r (is_shut older) (if b then Some event else None) (heard older i r)) (rule_at older i) ≡ probe_at older i
    by_test true is = let same : slot ≡ i = eqb-true slot i is in at_slot (rule_at older i) (is_shut older) (λ done. replied (rw same done))
    by_test false is = refl

-- the rule in force is that of the slot's probe
pub rule_of_probe : (entries : List Entry) (i : ℕ) → option_map (λ state. state.0) (probe_at entries i) ≡ rule_at entries i
rule_of_probe entries i = by_rule (rule_at entries i)
  where
    by_rule : (o : Option Rule) → option_map (λ state. state.0) (states (heard entries i) o) ≡ o
    by_rule None = refl
    by_rule (Some rule) = refl

-- a call that brings an event to a slot, which hears it where the answer is Done
keeps_event : (slots after : List (Option (Rule × ℕ))) (shut : Bool) (journal new : List Entry) (max_entries slot : ℕ) (event : Event) (entry : Entry)
    → Keeps slots shut journal max_entries → length journal < max_entries → new ≡ journal ++ entry ∷ []
    → entry.reply ≡ reply_to (past journal) entry.call → IsLawfulCall entry.call
    → reply_to (past journal) entry.call ≡ reply_to_event (rule_at (past journal) slot) (is_shut (past journal)) event
    → is_shut (past journal) ≡ is_shut (entry ∷ past journal)
    → ((i : ℕ) → probe_at (entry ∷ past journal) i ≡ states (λ r. with_event r (is_shut (past journal)) (if slot == i then Some event else None) (heard (past journal) i r)) (rule_at (past journal) i))
    → IsHeard slot event entry.reply slots after → Keeps after shut new max_entries
keeps_event slots after shut journal new max_entries slot event entry keeps below is reply_is lawful answers shut_is brings hears =
    keeps_more slots after shut shut journal new max_entries entry keeps below is reply_is lawful (keeps.shut_is ∙ shut_is) (by_reply entry.reply refl)
  where
    heard_it : entry.reply ≡ Done → (i : ℕ) → i < 16 → get_or after i None ≡ probe_at (entry ∷ past journal) i
    heard_it said i few =
        ap (λ xs. get_or xs i None) (hears.done said)
        ∙ set_by_cases (noted event) refl slots slot i
        ∙ ap (λ o. if slot == i then noted event o else o) (keeps.each i few)
        ∙ sym (heard_done slot i event (past journal) keeps.legal (sym answers ∙ sym reply_is ∙ said))
        ∙ sym (brings i)

    heard_none : (entry.reply ≡ Done → ⊥) → (i : ℕ) → i < 16 → get_or after i None ≡ probe_at (entry ∷ past journal) i
    heard_none said i few =
        ap (λ xs. get_or xs i None) (hears.others said)
        ∙ keeps.each i few
        ∙ sym (heard_by_none slot i event (past journal) (λ done. said (reply_is ∙ answers ∙ done)))
        ∙ sym (brings i)

    by_reply : (r : Reply) → entry.reply ≡ r → (i : ℕ) → i < 16 → get_or after i None ≡ probe_at (entry ∷ past journal) i
    by_reply Done said = heard_it said
    by_reply Replaced said = heard_none (λ same. let both : Replaced ≡ Done = sym said ∙ same in cc)
    by_reply Missing said = heard_none (λ same. let both : Missing ≡ Done = sym said ∙ same in cc)
    by_reply WrongKind said = heard_none (λ same. let both : WrongKind ≡ Done = sym said ∙ same in cc)
    by_reply Ignored said = heard_none (λ same. let both : Ignored ≡ Done = sym said ∙ same in cc)

-- room for more probes holds what was held
pub keeps_room : (slots room : List (Option (Rule × ℕ))) (shut : Bool) (journal : List Entry) (max_entries : ℕ) → HasSame slots room → Keeps slots shut journal max_entries
    → Keeps room shut journal max_entries
keeps_room slots room shut journal max_entries same keeps =
    record { legal = keeps.legal; shut_is = keeps.shut_is; each = λ i few. same i ∙ keeps.each i few; room = keeps.room; limit = keeps.limit }

-- one more change, and the probes as it leaves them
pub keeps_change : (call : Call) (slots after : List (Option (Rule × ℕ))) (shut now : Bool) (journal new : List Entry) (max_entries seat : ℕ) (reply : Reply)
    → Keeps slots shut journal max_entries → length journal < max_entries → IsLawfulCall call → reply ≡ reply_to (past journal) call
    → new ≡ journal ++ entry_of seat call reply ∷ [] → IsApplied call reply slots after → now ≡ unwrap_or (says_shut call) shut
    → Keeps after now new max_entries
keeps_change (Register slot rule) slots after shut now journal new max_entries seat reply keeps below lawful reply_is is applied now_is =
    rw now_is (keeps_register slots after shut journal new max_entries seat slot rule reply keeps below applied.0 lawful reply_is is applied.1)
keeps_change (Retire slot) slots after shut now journal new max_entries seat reply keeps below lawful reply_is is applied now_is =
    rw now_is (keeps_retire slots after shut journal new max_entries seat slot reply keeps below reply_is is applied)
keeps_change (Observe slot finding) slots after shut now journal new max_entries seat reply keeps below lawful reply_is is applied now_is =
    rw now_is (keeps_event slots after shut journal new max_entries slot (event_of_finding finding) (entry_of seat (Observe slot finding) reply) keeps
    below is reply_is lawful refl refl (λ i. refl) applied)
keeps_change (Set slot setting) slots after shut now journal new max_entries seat reply keeps below lawful reply_is is applied now_is =
    rw now_is (keeps_event slots after shut journal new max_entries slot (event_of_setting setting) (entry_of seat (Set slot setting) reply) keeps
    below is reply_is lawful refl refl (λ i. refl) applied)
keeps_change Shutdown slots after shut now journal new max_entries seat reply keeps below lawful reply_is is applied now_is =
    rw now_is (keeps_shutdown slots after shut journal new max_entries seat reply keeps below reply_is is applied)
keeps_change Resume slots after shut now journal new max_entries seat reply keeps below lawful reply_is is applied now_is =
    rw now_is (keeps_resume slots after shut journal new max_entries seat reply keeps below reply_is is applied)

-- no entries, and no probes
pub keeps_none : (max_entries : ℕ) → max_entries < 2 ^ 32 → Keeps [] false [] max_entries
keeps_none max_entries small = record { legal = tt; shut_is = refl; each = λ i few. refl; room = omega arith; limit = small }
