-- What a desk keeps, before and after an entry.
use Rattle.std.proofs.Common.{◌≡◌, ◌≢◌, ℕ, zero, suc, ◌^◌, ◌<◌, ◌≤◌, ◌==◌, ◌&&◌, Bool, true, false, if◌then◌else◌, Option, None, Some, unwrap_or}
use Rattle.std.proofs.Common.{List, [], ◌∷◌, ◌++◌, length, get_or, set, replicate, Ok, Err, refl, sym, ap, subst, ◌∙◌, inl, inr, ◌⊎◌, arith}
use Rattle.std.specs.Prelude.{IsTrue, ◌↔◌}
use Rattle.std.specs.Option.{option_map, option_or}
use Rattle.std.proofs.lemmas.Bool.{eqb-true, eqb-false, eq-eqb, cases_lt}
use Rattle.std.proofs.lemmas.List.{length-reverse, get_or-set_other}
use Rattle.std.proofs.lemmas.Nat.Bits.{bit_at-zero, bit_at-pow_same, bit_at_ones, bit_at_above}
use Rattle.health_wire.specs.declared.serving.Serving.{Serving}
use Rattle.health_wire.specs.declared.serving.Serving.TheVariants.{Unknown, NotServing, ServiceUnknown, Serving as IsServing}
use Rattle.probe_core.specs.declared.event.Event.{Event}
use Rattle.probe_core.specs.declared.rule.Rule.{Rule}
use Rattle.probe_core.specs.Rule.{relied_on, opening_memory}
use Rattle.probe_core.specs.Events.{is_unknown, is_up}
use Rattle.desk_core.specs.declared.call.Call.{Call}
use Rattle.desk_core.specs.declared.call.Call.TheVariants.{Register, Retire, Observe, Set, Shutdown, Resume}
use Rattle.desk_core.specs.declared.change.Change.{Change}
use Rattle.desk_core.specs.declared.entry.Entry.{Entry}
use Rattle.desk_core.specs.declared.refusal.Refusal.{Refusal}
use Rattle.desk_core.specs.declared.reply.Reply.{Reply}
use Rattle.desk_core.specs.declared.reply.Reply.TheVariants.{Done, Replaced, Missing, WrongKind, Ignored}
use Rattle.desk_core.specs.Past.{past, last_said}
use Rattle.desk_core.specs.Present.{rule_at, says_rule}
use Rattle.desk_core.specs.Heard.{heard, event_of_finding, event_of_setting}
use Rattle.desk_core.specs.Shut.{says_shut, is_shut}
use Rattle.desk_core.specs.Legal.{IsLawfulCall}
use Rattle.desk_core.specs.declared.refusal.Refusal.TheVariants as refusals
use Rattle.desk_core.specs.Mutation.{entry_of, Taken, NoMemory, NotStored}
use Rattle.desk_core.specs.Reply.{reply_to}
use Rattle.desk_core.specs.Status.{status_at, status_by, opinion, all_serving, has_slot, serving_if}
use Rattle.desk_core.specs.Board.{packed, status_in}
use Rattle.desk_core.specs.Changes.{Shows, changed, changes_of, shown_at}
use Rattle.desk_core.specs.Slots.{covers_below, status_from, shown_in, noted, touched, held_at, TakesFromSlot, HasSame, IsHeard, IsApplied}
use Rattle.desk_core.specs.Cache.{relies_on, rule_in, IsMapOf, LooksBack, HasDependents, IsRelated, Leaves, HasRule}
use Rattle.desk_core.specs.Desk.{State, HasAnswered, HasStored, Keeps, IsDesk, IsShown, probe_at, probe_of}
use Rattle.desk_core.proofs.HistoryLemmas.{past_more, rule_of_probe, keeps_room, keeps_change}
use Rattle.desk_core.proofs.StatusLemmas.{Tells, status_of_probe}
use Rattle.desk_core.proofs.LawfulLemmas.{lawful_rule, relied_below}
use Rattle.desk_core.proofs.BoardLemmas.{IsKept, status_in_packed}
use Rattle.desk_core.proofs.ChangeLemmas.{changed_same}

-- what holds of no status, of unknown, of serving and of not serving holds of each status of a history
each_status : (P : Option Serving → Type 0) → P None → P (Some Unknown) → P (Some IsServing) → P (Some NotServing) → (entries : List Entry) (i : ℕ) → P (status_at entries i)
each_status P none unheard up down entries i = by_rule (rule_at entries i)
  where
    by_serving : (b : Bool) → P (Some (serving_if b))
    by_serving true = up
    by_serving false = down

    by_unknown : (unknown up : Bool) → P (Some (if unknown then Unknown else serving_if up))
    by_unknown true up = unheard
    by_unknown false up = by_serving up

    by_opinion : (events : List Event) (rule : Rule) → P (Some (opinion (all_serving entries i) events rule))
    by_opinion events rule = by_unknown (is_unknown rule events) (is_up rule events && all_serving entries i (relied_on rule))

    by_shut : (b : Bool) (rule : Rule) → P (Some (if b then NotServing else opinion (all_serving entries i) (heard entries i rule) rule))
    by_shut true rule = down
    by_shut false rule = by_opinion (heard entries i rule) rule

    by_rule : (o : Option Rule) → P (status_by (all_serving entries i) entries i o)
    by_rule None = none
    by_rule (Some rule) = by_shut (is_shut entries) rule

-- each status of a history can stand in a word
pub kept_status : (entries : List Entry) (i : ℕ) → IsKept (status_at entries i)
kept_status entries i = each_status (λ status. IsKept status) refl refl refl refl entries i

-- a history's statuses are read from its word
pub read_status : (entries : List Entry) (word i : ℕ) → word ≡ packed (status_at entries) 16 → i < 16 → status_in word i ≡ status_at entries i
read_status entries word i is few = status_in_packed (status_at entries) word i is few (kept_status entries i)

-- the rule of a slot's probe is that in force
pub rule_of_parts : (slots : List (Option (Rule × ℕ))) (shut : Bool) (journal : List Entry) (max_entries i : ℕ) → Keeps slots shut journal max_entries → i < 16
    → rule_in slots i ≡ rule_at (past journal) i
rule_of_parts slots shut journal max_entries i keeps few = ap (option_map (λ (state : Rule × ℕ). state.0)) (keeps.each i few) ∙ rule_of_probe (past journal) i

-- the statuses of the journal are those of the probes
pub map_of_parts : Tells
    → (slots : List (Option (Rule × ℕ))) (shut : Bool) (journal : List Entry) (max_entries : ℕ) → Keeps slots shut journal max_entries
    → IsMapOf slots shut (status_at (past journal))
map_of_parts tells slots shut journal max_entries keeps i few =
    sym (ap (option_map (status_from (covers_below (status_at (past journal)) 16) shut)) (keeps.each i few)
    ∙ ap (λ b. option_map (status_from (covers_below (status_at (past journal)) 16) b) (probe_at (past journal) i)) keeps.shut_is
    ∙ status_of_probe tells (past journal) i (status_at (past journal)) keeps.legal few (λ j below. refl))

-- a lawful rule relies on slots before its own
relies_before : (i j : ℕ) (rule : Option Rule) → ((r : Rule) → rule ≡ Some r → relied_on r < 2 ^ i) → relies_on rule j ≡ true → j < i
relies_before i j None small relies = let never : false ≡ true = relies in cc
relies_before i j (Some rule) small relies = by_place (cases_lt j i)
  where
    by_place : (j < i) ⊎ (i ≤ j) → j < i
    by_place (inl before) = before
    by_place (inr past_it) =
        let above = bit_at_above (relied_on rule) i j (small rule refl) past_it in
        let clear : has_slot (relied_on rule) j ≡ false = ap (λ k. k == 1) above in
        let never : false ≡ true = sym clear ∙ relies in
        cc

pub looks_back : (slots : List (Option (Rule × ℕ))) (shut : Bool) (journal : List Entry) (max_entries : ℕ) → Keeps slots shut journal max_entries → LooksBack slots
looks_back slots shut journal max_entries keeps i j few relies =
    let rule_is = rule_of_parts slots shut journal max_entries i keeps few in
    relies_before i j (rule_at (past journal) i)
    (λ r said. relied_below i r (lawful_rule (past journal) i r keeps.legal said))
    (ap (λ o. relies_on o j) (sym rule_is) ∙ relies)

pub related_of_parts : (slots : List (Option (Rule × ℕ))) (shut : Bool) (journal : List Entry) (max_entries : ℕ) (dependents : List ℕ) → Keeps slots shut journal max_entries
    → HasDependents (rule_at (past journal)) dependents → HasDependents (rule_in slots) dependents
related_of_parts slots shut journal max_entries dependents keeps related i j few below =
    related i j few below ∙ ap (λ o. relies_on o j) (sym (rule_of_parts slots shut journal max_entries i keeps few))

-- two slots are one, or are not, in either order
turned : (i slot : ℕ) (b : Bool) → (i == slot) ≡ b → (slot == i) ≡ b
turned i slot true at = eq-eqb slot i (sym (eqb-true i slot at))
turned i slot false at = by_test (slot == i) refl
  where
    by_test : (b : Bool) → (slot == i) ≡ b → b ≡ false
    by_test true is = absurd (eqb-false i slot at (sym (eqb-true slot i is)))
    by_test false is = refl

-- after an entry the masks say the rules in force, where they say the rule that the entry changed
related_more : (journal new : List Entry) (entry : Entry) (slot : ℕ) (rule : Option Rule) (old dependents : List ℕ)
    → new ≡ journal ++ entry ∷ [] → ((i : ℕ) → rule_at (entry ∷ past journal) i ≡ (if slot == i then rule else rule_at (past journal) i))
    → HasDependents (rule_at (past journal)) old → HasRule slot rule old dependents → HasDependents (rule_at (past new)) dependents
related_more journal new entry slot rule old dependents is says related marked i j few below =
    let later : past new ≡ entry ∷ past journal = ap past is ∙ past_more journal entry in
    marked i j few below ∙ by_slot (i == slot) refl ∙ ap (λ o. relies_on o j) (sym (says i)) ∙ ap (λ entries. relies_on (rule_at entries i) j) (sym later)
  where
    by_slot : (b : Bool) → (i == slot) ≡ b → (if b then relies_on rule j else has_slot (get_or old j 0) i) ≡ relies_on (if slot == i then rule else rule_at (past journal) i) j
    by_slot true at = ap (λ b. relies_on (if b then rule else rule_at (past journal) i) j) (sym (turned i slot true at))
    by_slot false at = related i j few below ∙ ap (λ b. relies_on (if b then rule else rule_at (past journal) i) j) (sym (turned i slot false at))

-- an entry that leaves all rules in force leaves the masks
related_same : (journal new : List Entry) (entry : Entry) (dependents : List ℕ)
    → new ≡ journal ++ entry ∷ [] → ((i : ℕ) → rule_at (entry ∷ past journal) i ≡ rule_at (past journal) i)
    → HasDependents (rule_at (past journal)) dependents → HasDependents (rule_at (past new)) dependents
related_same journal new entry dependents is says related i j few below =
    let later : past new ≡ entry ∷ past journal = ap past is ∙ past_more journal entry in
    related i j few below ∙ ap (λ o. relies_on o j) (sym (says i)) ∙ ap (λ entries. relies_on (rule_at entries i) j) (sym later)

rule_at-register : (seat slot : ℕ) (rule : Rule) (reply : Reply) (older : List Entry) (i : ℕ)
    → rule_at (record { seat = seat; call = Register slot rule; reply = reply } ∷ older) i ≡ (if slot == i then Some rule else rule_at older i)
rule_at-register seat slot rule reply older i = by_test (slot == i)
  where
    by_test : (b : Bool) → unwrap_or (option_or (if b then Some (Some rule) else None) (last_said (says_rule i) older)) None ≡ (if b then Some rule else rule_at older i)
    by_test true = refl
    by_test false = refl

rule_at-retire : (seat slot : ℕ) (reply : Reply) (older : List Entry) (i : ℕ)
    → rule_at (record { seat = seat; call = Retire slot; reply = reply } ∷ older) i ≡ (if slot == i then None else rule_at older i)
rule_at-retire seat slot reply older i = by_test (slot == i)
  where
    by_test : (b : Bool) → unwrap_or (option_or (if b then Some None else None) (last_said (says_rule i) older)) None ≡ (if b then None else rule_at older i)
    by_test true = refl
    by_test false = refl

-- a change of one slot leaves the others
leaves_slot : (slot touched : ℕ) (was slots : List (Option (Rule × ℕ))) (shut : Bool) → touched ≡ 2 ^ slot
    → ((i : ℕ) → i ≢ slot → get_or slots i None ≡ get_or was i None) → Leaves touched was shut slots shut
leaves_slot slot touched was slots shut touched_is others i few unmarked = (others i other, refl)
  where
    other : i ≢ slot
    other same =
        let marked : has_slot touched i ≡ true = ap (λ m. has_slot m i) touched_is ∙ ap (has_slot (2 ^ slot)) same ∙ ap (λ k. k == 1) (bit_at-pow_same slot) in
        let never : false ≡ true = sym unmarked ∙ marked in
        cc

-- a change of all slots leaves none
leaves_none : (was slots : List (Option (Rule × ℕ))) (was_shut shut : Bool) → Leaves 65535 was was_shut slots shut
leaves_none was slots was_shut shut i few unmarked =
    let marked : has_slot 65535 i ≡ true = ap (λ k. k == 1) (bit_at_ones 16 i few) in
    let never : false ≡ true = sym unmarked ∙ marked in
    cc

-- a write to one slot leaves the others
others_set : (slots after : List (Option (Rule × ℕ))) (slot : ℕ) (probe : Option (Rule × ℕ)) → after ≡ set slots slot probe
    → (i : ℕ) → i ≢ slot → get_or after i None ≡ get_or slots i None
others_set slots after slot probe write i other = ap (λ xs. get_or xs i None) write ∙ get_or-set_other slots slot i probe None other

others_heard : (slots after : List (Option (Rule × ℕ))) (slot : ℕ) (event : Event) (reply : Reply) → IsHeard slot event reply slots after
    → (i : ℕ) → i ≢ slot → get_or after i None ≡ get_or slots i None
others_heard slots after slot event reply hears i other = by_reply reply refl
  where
    heard_it : reply ≡ Done → get_or after i None ≡ get_or slots i None
    heard_it said = others_set slots after slot (noted event (get_or slots slot None)) (hears.done said) i other

    heard_none : (reply ≡ Done → ⊥) → get_or after i None ≡ get_or slots i None
    heard_none said = ap (λ xs. get_or xs i None) (hears.others said)

    by_reply : (r : Reply) → reply ≡ r → get_or after i None ≡ get_or slots i None
    by_reply Done said = heard_it said
    by_reply Replaced said = heard_none (λ same. let both : Replaced ≡ Done = sym said ∙ same in cc)
    by_reply Missing said = heard_none (λ same. let both : Missing ≡ Done = sym said ∙ same in cc)
    by_reply WrongKind said = heard_none (λ same. let both : WrongKind ≡ Done = sym said ∙ same in cc)
    by_reply Ignored said = heard_none (λ same. let both : Ignored ≡ Done = sym said ∙ same in cc)

-- a change leaves what it does not touch
pub leaves_change : (call : Call) (reply : Reply) (was slots after : List (Option (Rule × ℕ))) (shut now : Bool) → HasSame was slots
    → IsApplied call reply slots after → now ≡ unwrap_or (says_shut call) shut → Leaves (touched call) was shut after now
leaves_change (Register slot rule) reply was slots after shut now same applied now_is =
    rw now_is (leaves_slot slot (2 ^ slot) was after shut refl (λ i other. others_set slots after slot (Some (rule, opening_memory rule)) applied.1 i other ∙ same i))
leaves_change (Retire slot) reply was slots after shut now same applied now_is =
    rw now_is (leaves_slot slot (2 ^ slot) was after shut refl (λ i other. others_set slots after slot None applied i other ∙ same i))
leaves_change (Observe slot finding) reply was slots after shut now same applied now_is =
    rw now_is (leaves_slot slot (2 ^ slot) was after shut refl (λ i other. others_heard slots after slot (event_of_finding finding) reply applied i other ∙ same i))
leaves_change (Set slot setting) reply was slots after shut now same applied now_is =
    rw now_is (leaves_slot slot (2 ^ slot) was after shut refl (λ i other. others_heard slots after slot (event_of_setting setting) reply applied i other ∙ same i))
leaves_change Shutdown reply was slots after shut now same applied now_is = leaves_none was after shut now
leaves_change Resume reply was slots after shut now same applied now_is = leaves_none was after shut now

-- masks that follow a change say the rules in force after it
pub related_change : (call : Call) (journal new : List Entry) (seat : ℕ) (reply : Reply) (old dependents : List ℕ) → new ≡ journal ++ entry_of seat call reply ∷ []
    → IsRelated call old dependents → HasDependents (rule_at (past journal)) old → HasDependents (rule_at (past new)) dependents
related_change (Register slot rule) journal new seat reply old dependents is marked related =
    related_more journal new (entry_of seat (Register slot rule) reply) slot (Some rule) old dependents is (rule_at-register seat slot rule reply (past journal)) related marked
related_change (Retire slot) journal new seat reply old dependents is marked related =
    related_more journal new (entry_of seat (Retire slot) reply) slot None old dependents is (rule_at-retire seat slot reply (past journal)) related marked
related_change (Observe slot finding) journal new seat reply old dependents is same related =
    rw same (related_same journal new (entry_of seat (Observe slot finding) reply) old is (λ i. refl) related)
related_change (Set slot setting) journal new seat reply old dependents is same related =
    rw same (related_same journal new (entry_of seat (Set slot setting) reply) old is (λ i. refl) related)
related_change Shutdown journal new seat reply old dependents is same related =
    rw same (related_same journal new (entry_of seat Shutdown reply) old is (λ i. refl) related)
related_change Resume journal new seat reply old dependents is same related =
    rw same (related_same journal new (entry_of seat Resume reply) old is (λ i. refl) related)

-- one more entry, with the statuses, the masks and the changes that it led to
pub is_desk_more : (slots after_slots : List (Option (Rule × ℕ))) (shut now : Bool) (journal new : List Entry) (old kept changes : List Change)
    (old_statuses statuses : ℕ) (old_dependents dependents : List ℕ) (max_entries at : ℕ) (entry : Entry)
    → IsDesk slots shut journal old old_statuses old_dependents max_entries → Keeps after_slots now new max_entries
    → new ≡ journal ++ entry ∷ [] → at ≡ length journal → kept ≡ old
    → statuses ≡ packed (status_at (past new)) 16 → HasDependents (rule_at (past new)) dependents
    → changes ≡ kept ++ changed at (shown_in old_statuses) (shown_in statuses) 16
    → IsDesk after_slots now new changes statuses dependents max_entries
is_desk_more slots after_slots shut now journal new old kept changes old_statuses statuses old_dependents dependents max_entries at entry desk keeps is at_is kept_is cached related told =
    let later : past new ≡ entry ∷ past journal = ap past is ∙ past_more journal entry in
    let place : at ≡ length (past journal) = at_is ∙ sym (length-reverse journal) in
    let same_before : (i : ℕ) → i < 16 → shown_in old_statuses i ≡ shown_at (past journal) i = λ i below.
    ap (λ status. unwrap_or status ServiceUnknown) (read_status (past journal) old_statuses i desk.cached below) in
    let same_after : (i : ℕ) → i < 16 → shown_in statuses i ≡ shown_at (past new) i = λ i below.
    ap (λ status. unwrap_or status ServiceUnknown) (read_status (past new) statuses i cached below) in
    record {
      parts = keeps;
      told = told
          ∙ ap (λ cs. cs ++ changed at (shown_in old_statuses) (shown_in statuses) 16) (kept_is ∙ desk.told)
          ∙ ap (λ cs. changes_of (past journal) ++ cs) (changed_same at 16 (shown_in old_statuses) (shown_in statuses) (shown_at (past journal)) (shown_at (past new)) same_before same_after)
          ∙ ap (λ k. changes_of (past journal) ++ changed k (shown_at (past journal)) (shown_at (past new)) 16) place
          ∙ ap (λ entries. changes_of (past journal) ++ changed (length (past journal)) (shown_at (past journal)) (shown_at entries) 16) later
          ∙ sym (ap changes_of later);
      cached = cached;
      related = related;
    }

-- before the first entry no slot has a status
nothing_packed : (n : ℕ) → packed (status_at []) n ≡ 0
unfolding packed
nothing_packed zero = refl
nothing_packed (suc n) = omega (arith, nothing_packed n)

get_zero : (n j : ℕ) → get_or {A = ℕ} (replicate n 0) j 0 ≡ 0
get_zero zero j = refl
get_zero (suc n) zero = refl
get_zero (suc n) (suc j) = get_zero n j

pub is_desk_new : (max_entries statuses : ℕ) (slots : List (Option (Rule × ℕ))) (journal : List Entry) (changes : List Change) (dependents : List ℕ)
    → Keeps [] false [] max_entries → slots ≡ [] → journal ≡ [] → changes ≡ [] → statuses ≡ 0 → dependents ≡ replicate 16 0
    → IsDesk slots false journal changes statuses dependents max_entries
is_desk_new max_entries statuses slots journal changes dependents keeps slots_is journal_is changes_is statuses_is dependents_is =
    let Parts : List (Option (Rule × ℕ)) → Type 0 = λ xs. Keeps xs false [] max_entries in
    let Journal : List Entry → Type 0 = λ es. IsDesk slots false es changes statuses dependents max_entries in
    subst Journal (sym journal_is) (record {
      parts = subst Parts (sym slots_is) keeps;
      told = changes_is;
      cached = statuses_is ∙ sym (nothing_packed 16);
      related = λ i j few below. ap (λ ds. has_slot (get_or ds j 0) i) dependents_is ∙ ap (λ m. has_slot m i) (get_zero 16 j) ∙ ap (λ k. k == 1) (bit_at-zero i);
    })

-- an entry is added, its change is made, and what it touched is shown
pub is_desk_changed : (slots room after : List (Option (Rule × ℕ))) (shut now : Bool) (journal new last : List Entry) (old kept changes : List Change)
    (old_statuses kept_statuses statuses : ℕ) (old_dependents kept_dependents dependents : List ℕ) (max_entries at seat : ℕ)
    (call : Call) (reply : Reply)
    → IsDesk slots shut journal old old_statuses old_dependents max_entries → HasSame slots room
    → length journal < max_entries → IsLawfulCall call → reply ≡ reply_to (past journal) call
    → new ≡ journal ++ entry_of seat call reply ∷ [] → last ≡ new → at ≡ length journal → kept ≡ old
    → kept_statuses ≡ old_statuses → kept_dependents ≡ old_dependents
    → IsApplied call reply room after → now ≡ unwrap_or (says_shut call) shut
    → IsRelated call kept_dependents dependents → IsShown (touched call) after now dependents kept_statuses statuses
    → changes ≡ kept ++ changed at (shown_in kept_statuses) (shown_in statuses) 16
    → IsDesk after now last changes statuses dependents max_entries
is_desk_changed slots room after shut now journal new last old kept changes old_statuses kept_statuses statuses old_dependents kept_dependents dependents max_entries at seat call reply
    desk same below lawful reply_is is last_is at_is kept_is statuses_is dependents_is applied now_is marked shows told =
    let Journal : List Entry → Type 0 = λ es. IsDesk after now es changes statuses dependents max_entries in
    let Marked : List ℕ → Type 0 = λ ds. IsRelated call ds dependents in
    let keeps = keeps_change call room after shut now journal new max_entries seat reply (keeps_room slots room shut journal max_entries same desk.parts) below lawful reply_is is applied now_is in
    let related = related_change call journal new seat reply old_dependents dependents is (subst Marked dependents_is marked) desk.related in
    let cached = shows slots shut journal new max_entries desk.parts keeps related (leaves_change call reply slots room after shut now same applied now_is) (statuses_is ∙ desk.cached) in
    let told_too = told ∙ ap (λ word. kept ++ changed at (shown_in word) (shown_in statuses) 16) statuses_is in
    subst Journal (sym last_is)
    (is_desk_more slots after shut now journal new old kept changes old_statuses statuses old_dependents dependents
    max_entries at (entry_of seat call reply) desk keeps is at_is kept_is cached related told_too)

-- a change that was taken
pub has_answered : (old new : State) (seat : ℕ) (call : Call) (reply : Reply) → IsLawfulCall call → length old.journal < old.max_entries
    → reply ≡ reply_to (past old.journal) call → new.journal ≡ old.journal ++ entry_of seat call reply ∷ [] → new.max_entries ≡ old.max_entries
    → HasStored old new (entry_of seat call reply) (Ok reply) → HasAnswered old new seat call (Ok reply)
has_answered old new seat call reply lawful below reply_is is most stored = record {
  most = most;
  answer = Taken call reply lawful (rw (length-reverse old.journal) below) reply_is (ap past is ∙ past_more old.journal (entry_of seat call reply));
  stored = subst (λ r. HasStored old new (entry_of seat call r) (Ok reply)) reply_is stored;
}

-- it shows where the list of status changes has grown
pub shows_newest : (shows : Bool) (journal new : List Entry) (entry : Entry) (was changes : List Change) → new ≡ journal ++ entry ∷ [] → was ≡ changes_of (past journal)
    → changes ≡ changes_of (past new) → IsTrue shows ↔ (length was < length changes) → IsTrue shows ↔ Shows (past new)
shows_newest shows journal new entry was changes is was_is changes_is told =
    let later : past new ≡ entry ∷ past journal = ap past is ∙ past_more journal entry in
    subst (λ h. IsTrue shows ↔ Shows h) (sym later)
    (subst (λ cs. IsTrue shows ↔ (length cs < length (changes_of (entry ∷ past journal)))) was_is
    (subst (λ cs. IsTrue shows ↔ (length was < length cs)) (changes_is ∙ ap changes_of later) told))

-- a lawful change of a journal that is not full, for which an allocation failed, or which its store refused
module _ (old new : State) (seat : ℕ) (call : Call) (reply : Reply) (same : new.journal ≡ old.journal) (most : new.max_entries ≡ old.max_entries)
    (why : IsLawfulCall call × (length old.journal < old.max_entries)) (reply_is : reply ≡ reply_to (past old.journal) call) where
  has_room : length (past old.journal) < old.max_entries
  has_room = rw (length-reverse old.journal) why.1

  as_replied : {refusal : Refusal} → HasStored old new (entry_of seat call reply) (Err refusal) → HasStored old new (entry_of seat call (reply_to (past old.journal) call)) (Err refusal)
  as_replied {refusal} stored = subst (λ r. HasStored old new (entry_of seat call r) (Err refusal)) reply_is stored

  pub out_of_memory : HasStored old new (entry_of seat call reply) (Err refusals.NoMemory) → HasAnswered old new seat call (Err refusals.NoMemory)
  out_of_memory stored = record { most = most; answer = NoMemory call why.0 has_room (ap past same); stored = as_replied stored }

  pub not_stored : HasStored old new (entry_of seat call reply) (Err refusals.NotStored) → HasAnswered old new seat call (Err refusals.NotStored)
  not_stored stored = record { most = most; answer = NotStored call why.0 has_room (ap past same); stored = as_replied stored }

-- more room for probes, and nothing else
pub is_desk_room : (slots room : List (Option (Rule × ℕ))) (shut : Bool) (journal last : List Entry) (old changes : List Change)
    (old_statuses statuses : ℕ) (old_dependents dependents : List ℕ) (max_entries : ℕ)
    → IsDesk slots shut journal old old_statuses old_dependents max_entries → HasSame slots room
    → last ≡ journal → changes ≡ old → statuses ≡ old_statuses → dependents ≡ old_dependents
    → IsDesk room shut last changes statuses dependents max_entries
is_desk_room slots room shut journal last old changes old_statuses statuses old_dependents dependents max_entries desk same last_is changes_is statuses_is dependents_is =
    rw (last_is, changes_is, statuses_is, dependents_is)
    (record { parts = keeps_room slots room shut journal max_entries same desk.parts; told = desk.told; cached = desk.cached; related = desk.related })

-- masks that are the same say the same rules
pub related_too : (rules : ℕ → Option Rule) (old new : List ℕ) → new ≡ old → HasDependents rules old → HasDependents rules new
related_too rules old new same related i j few below = ap (λ ds. has_slot (get_or ds j 0) i) same ∙ related i j few below

-- what a call takes out is the probe that the journal says
pub takes_out : (slots room : List (Option (Rule × ℕ))) (shut : Bool) (journal was : List Entry) (max_entries : ℕ) (call : Call) → HasSame slots room → Keeps slots shut journal max_entries
    → journal ≡ was → TakesFromSlot call → held_at room call ≡ probe_of (past was) call
takes_out slots room shut journal was max_entries (Register slot rule) same keeps is from = same slot ∙ keeps.each slot from ∙ ap (λ js. probe_at (past js) slot) is
takes_out slots room shut journal was max_entries (Retire slot) same keeps is from = same slot ∙ keeps.each slot from ∙ ap (λ js. probe_at (past js) slot) is
takes_out slots room shut journal was max_entries (Observe slot finding) same keeps is from = refl
takes_out slots room shut journal was max_entries (Set slot setting) same keeps is from = refl
takes_out slots room shut journal was max_entries Shutdown same keeps is from = refl
takes_out slots room shut journal was max_entries Resume same keeps is from = refl
