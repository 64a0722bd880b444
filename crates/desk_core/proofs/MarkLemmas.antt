-- The marks of a history, one entry more at a time.
use Rattle.std.proofs.Common.{◌≡◌, ℕ, suc, ◌+◌, ◌<◌, ◌≤◌, ◌==◌, ◌&&◌, not, min, nat_le, Bool, true, false, if◌then◌else◌, Option, None, Some, unwrap_or, List, [], ◌∷◌, ◌++◌, length, get_or, refl, sym, ap, subst, ◌∙◌, arith}
use Rattle.std.specs.List.{prefix_len}
use Rattle.std.specs.Option.{option_or}
use Rattle.std.proofs.lemmas.Bool.{eqb-true}
use Rattle.std.proofs.lemmas.List.{length-reverse}
use Rattle.std.proofs.lemmas.List.Sums.{prefix_len-le-length}
use Rattle.probe_core.specs.declared.event.Event.{Event}
use Rattle.probe_core.specs.declared.event.Event.TheVariants as events
use Rattle.probe_core.specs.declared.rule.Rule.{Rule}
use Rattle.probe_core.specs.declared.rule.Rule.TheVariants.{Threshold, Manual, Depends}
use Rattle.probe_core.specs.declared.start.Start.{Start}
use Rattle.probe_core.specs.Events.{is_fail, is_pass, is_up_setting}
use Rattle.probe_core.specs.Rule.{fits}
use Rattle.desk_core.specs.declared.call.Call.{Call}
use Rattle.desk_core.specs.declared.call.Call.TheVariants.{Register, Retire, Observe, Set, Shutdown, Resume}
use Rattle.desk_core.specs.declared.call.Finding.{Finding}
use Rattle.desk_core.specs.declared.call.Finding.TheVariants.{Pass, Fail}
use Rattle.desk_core.specs.declared.call.Setting.{Setting}
use Rattle.desk_core.specs.declared.call.Setting.TheVariants.{Up, Down}
use Rattle.desk_core.specs.declared.entry.Entry.{Entry}
use Rattle.desk_core.specs.declared.marks.Mark.{Mark}
use Rattle.desk_core.specs.declared.reply.Reply.{Reply}
use Rattle.desk_core.specs.declared.reply.Reply.TheVariants.{Done, Replaced, Missing, WrongKind, Ignored}
use Rattle.desk_core.specs.Heard.{event_for, event_of_finding, event_of_setting, forgets, heard, with_event}
use Rattle.desk_core.specs.Marks.{HasHeard, HasMarks, IsMark, IsRuleFor, begun, fall_of, found, next_mark, next_shut, set_to}
use Rattle.desk_core.specs.Mutation.{entry_of}
use Rattle.desk_core.specs.Past.{last_said, past}
use Rattle.desk_core.proofs.HistoryLemmas.{past_more}
use Rattle.desk_core.specs.Present.{rule_at, says_rule}
use Rattle.desk_core.specs.Reason.{asks_retired, brings, down_since, fails_in_row, forgets_all, newest, retires, shuts, takes_down}
use Rattle.desk_core.specs.Reply.{reply_to, reply_to_event}
use Rattle.desk_core.specs.Shut.{is_shut}
use Rattle.desk_core.specs.Silence.{is_done}

-- an event more, or none, makes at most one more
event_len : (rule : Rule) (shut : Bool) (event : Option Event) (events : List Event) → length (with_event rule shut event events) ≤ suc (length events)
event_len rule shut None events = omega arith
event_len rule shut (Some event) events = by_fit (not shut && fits rule event)
  where
    by_fit : (b : Bool) → length (if b then event ∷ events else events) ≤ suc (length events)
    by_fit true = omega arith
    by_fit false = omega arith

-- a slot has heard no more events than there are entries
heard_len : (entries : List Entry) (i : ℕ) (rule : Rule) → length (heard entries i rule) ≤ length entries
heard_len [] i rule = omega arith
heard_len (entry ∷ older) i rule =
    by_forgets (forgets i entry.call) (omega (arith, event_len rule (is_shut older) (event_for i entry.call) (heard older i rule), heard_len older i rule))
  where
    more : List Event
    more = with_event rule (is_shut older) (event_for i entry.call) (heard older i rule)

    by_forgets : (b : Bool) → length more ≤ suc (length older) → length (if b then [] else more) ≤ suc (length older)
    by_forgets true most = omega arith
    by_forgets false most = most

-- an entry that brings a slot no event does not take it down
no_event : (rule : Rule) (i : ℕ) (entry : Entry) (older : List Entry) → event_for i entry.call ≡ None → takes_down rule i entry older ≡ false
no_event (Threshold fall rise start) i entry older none =
    ap (λ event. brings is_fail event && (is_done entry.reply && nat_le fall (fails_in_row (entry ∷ older) i (Threshold fall rise start)))) none
no_event Manual i entry older none = ap (λ event. brings (λ e. not (is_up_setting e)) event && is_done entry.reply) none
no_event (Depends mask) i entry older none = refl

-- what a slot has heard behind an entry that brings it no event
heard_same : (rule : Rule) (i : ℕ) (entry : Entry) (older : List Entry) → forgets i entry.call ≡ false → event_for i entry.call ≡ None
    → heard (entry ∷ older) i rule ≡ heard older i rule
heard_same rule i entry older kept none =
    ap (λ b. if b then [] else with_event rule (is_shut older) (event_for i entry.call) (heard older i rule)) kept
    ∙ ap (λ event. with_event rule (is_shut older) event (heard older i rule)) none

down_same : (rule : Rule) (i : ℕ) (entry : Entry) (older : List Entry) → forgets i entry.call ≡ false → takes_down rule i entry older ≡ false
    → down_since (entry ∷ older) i rule ≡ down_since older i rule
down_same rule i entry older kept stays =
    ap (λ b. if b then Some (length older) else (if forgets i entry.call then None else down_since older i rule)) stays
    ∙ ap (λ b. if b then None else down_since older i rule) kept

rule_same : (i : ℕ) (entry : Entry) (older : List Entry) → says_rule i entry.call ≡ None → rule_at (entry ∷ older) i ≡ rule_at older i
rule_same i entry older none = ap (λ said. unwrap_or (option_or said (last_said (says_rule i) older)) None) none

-- an entry that is not of a slot leaves its mark
not_its : (i : ℕ) (entry : Entry) (older : List Entry) (mark : Mark) → asks_retired i entry.call ≡ false → forgets i entry.call ≡ false → says_rule i entry.call ≡ None
    → event_for i entry.call ≡ None → IsMark older i mark → IsMark (entry ∷ older) i mark
not_its i entry older mark stays kept none quiet is = record {
  retired = is.retired ∙ sym (ap (λ b. if b && is_done entry.reply then Some (length older) else newest (retires i) older) stays);
  forgot = is.forgot ∙ sym (ap (λ b. if b then Some (length older) else newest (forgets_all i) older) kept);
  heard = λ rule at.
      let before = is.heard rule (sym (rule_same i entry older none) ∙ at) in
      let same = sym (heard_same rule i entry older kept quiet) in record {
        down = before.down ∙ sym (down_same rule i entry older kept (no_event rule i entry older quiet));
        fails = before.fails ∙ ap (prefix_len is_fail) same;
        passes = before.passes ∙ ap (prefix_len is_pass) same;
      };
}

-- an entry that has a slot forget what it heard
begins_anew : (i at : ℕ) (entry : Entry) (older : List Entry) (mark : Mark) → length older ≡ at → asks_retired i entry.call ≡ false → forgets i entry.call ≡ true
    → event_for i entry.call ≡ None → IsMark older i mark → IsMark (entry ∷ older) i (begun at mark)
begins_anew i at entry older mark long stays gone quiet is = record {
  retired = is.retired ∙ sym (ap (λ b. if b && is_done entry.reply then Some (length older) else newest (retires i) older) stays);
  forgot = ap Some (sym long) ∙ sym (ap (λ b. if b then Some (length older) else newest (forgets_all i) older) gone);
  heard = λ rule at_rule.
      let nothing : heard (entry ∷ older) i rule ≡ [] = ap (λ b. if b then [] else with_event rule (is_shut older) (event_for i entry.call) (heard older i rule)) gone in record {
        down =
            sym (ap (λ b. if b then Some (length older) else (if forgets i entry.call then None else down_since older i rule)) (no_event rule i entry older quiet)
            ∙ ap (λ b. if b then None else down_since older i rule) gone);
        fails = sym (ap (prefix_len is_fail) nothing);
        passes = sym (ap (prefix_len is_pass) nothing);
      };
}

-- one more in a row is counted exactly
one_more : (is : Event → Bool) (entries : List Entry) (i at count : ℕ) (rule : Rule) → length entries ≡ at → at + 1 < 4294967296 → count ≡ prefix_len is (heard entries i rule)
    → min (count + 1) 4294967295 ≡ 1 + prefix_len is (heard entries i rule)
one_more is entries i at count rule long few is_count = omega (arith, long, few, is_count, prefix_len-le-length is (heard entries i rule), heard_len entries i rule)

-- what an event that was answered Done, or was not, adds to what a slot has heard
heard_done : (rule : Rule) (shut : Bool) (event : Event) (events : List Event) (reply : Reply) → reply ≡ reply_to_event (Some rule) shut event → is_done reply ≡ true
    → (with_event rule shut (Some event) events ≡ event ∷ events) × (fits rule event ≡ true)
heard_done rule shut event events reply is done = by_fit (fits rule event) shut refl is
  where
    by_fit : (fit now : Bool) → fits rule event ≡ fit → reply ≡ (if fit then (if now then Ignored else Done) else WrongKind)
        → ((if not now && fits rule event then event ∷ events else events) ≡ event ∷ events) × (fits rule event ≡ true)
    by_fit true true fit_is said = let never : false ≡ true = sym (ap is_done said) ∙ done in cc
    by_fit true false fit_is said = (ap (λ b. if b then event ∷ events else events) fit_is, fit_is)
    by_fit false now fit_is said = let never : false ≡ true = sym (ap is_done said) ∙ done in cc

heard_none : (rule : Rule) (shut : Bool) (event : Event) (events : List Event) (reply : Reply) → reply ≡ reply_to_event (Some rule) shut event → is_done reply ≡ false
    → with_event rule shut (Some event) events ≡ events
heard_none rule shut event events reply is not_done = by_fit (fits rule event) shut is
  where
    by_fit : (fit now : Bool) → reply ≡ (if fit then (if now then Ignored else Done) else WrongKind) → (if not now && fit then event ∷ events else events) ≡ events
    by_fit true true said = refl
    by_fit true false said = let never : true ≡ false = sym (ap is_done said) ∙ not_done in cc
    by_fit false true said = refl
    by_fit false false said = refl

-- what a slot has heard behind an entry with an event of it
heard_event : (rule : Rule) (i : ℕ) (entry : Entry) (older : List Entry) (event : Event) → forgets i entry.call ≡ false → event_for i entry.call ≡ Some event
    → heard (entry ∷ older) i rule ≡ with_event rule (is_shut older) (Some event) (heard older i rule)
heard_event rule i entry older event kept brings_it =
    ap (λ b. if b then [] else with_event rule (is_shut older) (event_for i entry.call) (heard older i rule)) kept
    ∙ ap (λ said. with_event rule (is_shut older) said (heard older i rule)) brings_it

-- an entry of a slot whose event was not heard leaves its mark
not_heard : (i : ℕ) (entry : Entry) (older : List Entry) (mark : Mark) (event : Event) → asks_retired i entry.call ≡ false → forgets i entry.call ≡ false
    → says_rule i entry.call ≡ None → event_for i entry.call ≡ Some event → entry.reply ≡ reply_to_event (rule_at older i) (is_shut older) event → is_done entry.reply ≡ false
    → IsMark older i mark → IsMark (entry ∷ older) i mark
not_heard i entry older mark event stays kept none brings_it replied not_done is = record {
  retired = is.retired ∙ sym (ap (λ b. if b && is_done entry.reply then Some (length older) else newest (retires i) older) stays);
  forgot = is.forgot ∙ sym (ap (λ b. if b then Some (length older) else newest (forgets_all i) older) kept);
  heard = λ rule at.
      let at_older : rule_at older i ≡ Some rule = sym (rule_same i entry older none) ∙ at in
      let before = is.heard rule at_older in
      let same =
      sym (heard_event rule i entry older event kept brings_it
      ∙ heard_none rule (is_shut older) event (heard older i rule) entry.reply (replied ∙ ap (λ o. reply_to_event o (is_shut older) event) at_older) not_done) in record {
        down = before.down ∙ sym (down_same rule i entry older kept (stays_up rule));
        fails = before.fails ∙ ap (prefix_len is_fail) same;
        passes = before.passes ∙ ap (prefix_len is_pass) same;
      };
}
  where
    and_false : (b : Bool) → (b && false) ≡ false
    and_false true = refl
    and_false false = refl

    stays_up : (rule : Rule) → takes_down rule i entry older ≡ false
    stays_up (Threshold fall rise start) =
        ap (λ b. brings is_fail (event_for i entry.call) && (b && nat_le fall (fails_in_row (entry ∷ older) i (Threshold fall rise start)))) not_done
        ∙ and_false (brings is_fail (event_for i entry.call))
    stays_up Manual = ap (λ b. brings (λ e. not (is_up_setting e)) (event_for i entry.call) && b) not_done ∙ and_false (brings (λ e. not (is_up_setting e)) (event_for i entry.call))
    stays_up (Depends mask) = refl

-- a mark behind a report that was heard, of a slot of a threshold
heard_report : (i at seat fall rise : ℕ) (start : Start) (finding : Finding) (older : List Entry) (mark : Mark) → length older ≡ at → at + 1 < 4294967296 → (i == i) ≡ true
    → heard (entry_of seat (Observe i finding) Done ∷ older) i (Threshold fall rise start) ≡ event_of_finding finding ∷ heard older i (Threshold fall rise start)
    → HasHeard older i mark (Threshold fall rise start)
    → HasHeard (entry_of seat (Observe i finding) Done ∷ older) i (found finding fall at mark) (Threshold fall rise start)
heard_report i at seat fall rise start Pass older mark long few same more before = record {
  down = before.down ∙ sym (down_same (Threshold fall rise start) i (entry_of seat (Observe i Pass) Done) older refl
      (ap (λ b. brings is_fail (if b then Some events.Pass else None)
      && nat_le fall (fails_in_row (entry_of seat (Observe i Pass) Done ∷ older) i (Threshold fall rise start))) same));
  fails = sym (ap (prefix_len is_fail) more);
  passes = one_more is_pass older i at mark.passes (Threshold fall rise start) long few before.passes ∙ sym (ap (prefix_len is_pass) more);
}
heard_report i at seat fall rise start Fail older mark long few same more before =
    let rule : Rule = Threshold fall rise start in
    let entry : Entry = entry_of seat (Observe i Fail) Done in
    let count : min (mark.fails + 1) 4294967295 ≡ fails_in_row (entry ∷ older) i rule =
    one_more is_fail older i at mark.fails rule long few before.fails ∙ sym (ap (prefix_len is_fail) more) in record {
      down =
          ap (λ n. if nat_le fall n then Some at else mark.down) count
          ∙ ap (λ n. if nat_le fall (fails_in_row (entry ∷ older) i rule) then Some n else mark.down) (sym long)
          ∙ ap (λ o. if nat_le fall (fails_in_row (entry ∷ older) i rule) then Some (length older) else o) before.down
          ∙ sym (ap (λ b. if brings is_fail (if b then Some events.Fail else None) && nat_le fall (fails_in_row (entry ∷ older) i rule) then Some (length older) else down_since older i rule) same);
      fails = count;
      passes = sym (ap (prefix_len is_pass) more);
    }

-- the mark of a slot behind a report of it that was heard
report_heard : (i at seat : ℕ) (finding : Finding) (older : List Entry) (mark : Mark) (rule : Option Rule) → length older ≡ at → at + 1 < 4294967296 → (i == i) ≡ true
    → rule ≡ rule_at older i → Done ≡ reply_to_event (rule_at older i) (is_shut older) (event_of_finding finding) → IsMark older i mark
    → IsMark (entry_of seat (Observe i finding) Done ∷ older) i (found finding (fall_of rule) at mark)
report_heard i at seat finding older mark rule long few same rule_is replied is = record {
  retired = kept_retired finding;
  forgot = kept_forgot finding;
  heard = λ r here. by_rule r here (is.heard r here) (heard_done r (is_shut older) (event_of_finding finding) (heard older i r) Done (replied ∙ ap (λ o. reply_to_event o (is_shut older) (event_of_finding finding)) here) refl);
}
  where
    kept_retired : (f : Finding) → (found f (fall_of rule) at mark).retired ≡ newest (retires i) older
    kept_retired Pass = is.retired
    kept_retired Fail = is.retired

    kept_forgot : (f : Finding) → (found f (fall_of rule) at mark).forgot ≡ newest (forgets_all i) older
    kept_forgot Pass = is.forgot
    kept_forgot Fail = is.forgot

    entry : Entry
    entry = entry_of seat (Observe i finding) Done

    more : (r : Rule) → with_event r (is_shut older) (Some (event_of_finding finding)) (heard older i r) ≡ event_of_finding finding ∷ heard older i r
        → heard (entry ∷ older) i r ≡ event_of_finding finding ∷ heard older i r
    more r adds = heard_event r i entry older (event_of_finding finding) refl (ap (λ b. if b then Some (event_of_finding finding) else None) same) ∙ adds

    no_fit : (f : Finding) → fits Manual (event_of_finding f) ≡ true → ⊥
    no_fit Pass never = let no : false ≡ true = never in absurd (cc)
    no_fit Fail never = let no : false ≡ true = never in absurd (cc)

    by_rule : (r : Rule) → rule_at older i ≡ Some r → HasHeard older i mark r
        → (with_event r (is_shut older) (Some (event_of_finding finding)) (heard older i r) ≡ event_of_finding finding ∷ heard older i r) × (fits r (event_of_finding finding) ≡ true)
        → HasHeard (entry ∷ older) i (found finding (fall_of rule) at mark) r
    by_rule (Threshold fall rise start) here before adds =
        subst (λ n. HasHeard (entry ∷ older) i (found finding n at mark) (Threshold fall rise start)) (sym (ap fall_of (rule_is ∙ here)))
        (heard_report i at seat fall rise start finding older mark long few same (more (Threshold fall rise start) adds.0) before)
    by_rule Manual here before adds = absurd (no_fit finding adds.1)
    by_rule (Depends mask) here before adds = let no : false ≡ true = adds.1 in absurd (cc)

-- the mark of a slot behind a setting of it that was heard
set_heard : (i at seat : ℕ) (setting : Setting) (older : List Entry) (mark : Mark) → length older ≡ at → (i == i) ≡ true
    → Done ≡ reply_to_event (rule_at older i) (is_shut older) (event_of_setting setting) → IsMark older i mark
    → IsMark (entry_of seat (Set i setting) Done ∷ older) i (set_to setting at mark)
set_heard i at seat setting older mark long same replied is = record {
  retired = kept_retired setting;
  forgot = kept_forgot setting;
  heard = λ r here. by_rule r (is.heard r here) (heard_done r (is_shut older) (event_of_setting setting) (heard older i r) Done (replied ∙ ap (λ o. reply_to_event o (is_shut older) (event_of_setting setting)) here) refl);
}
  where
    kept_retired : (s : Setting) → (set_to s at mark).retired ≡ newest (retires i) older
    kept_retired Up = is.retired
    kept_retired Down = is.retired

    kept_forgot : (s : Setting) → (set_to s at mark).forgot ≡ newest (forgets_all i) older
    kept_forgot Up = is.forgot
    kept_forgot Down = is.forgot

    entry : Setting → Entry
    entry s = entry_of seat (Set i s) Done

    more : (s : Setting) → with_event Manual (is_shut older) (Some (event_of_setting s)) (heard older i Manual) ≡ event_of_setting s ∷ heard older i Manual
        → heard (entry_of seat (Set i s) Done ∷ older) i Manual ≡ event_of_setting s ∷ heard older i Manual
    more s adds = heard_event Manual i (entry_of seat (Set i s) Done) older (event_of_setting s) refl (ap (λ b. if b then Some (event_of_setting s) else None) same) ∙ adds

    manual : (s : Setting) → HasHeard older i mark Manual → with_event Manual (is_shut older) (Some (event_of_setting s)) (heard older i Manual) ≡ event_of_setting s ∷ heard older i Manual
        → HasHeard (entry_of seat (Set i s) Done ∷ older) i (set_to s at mark) Manual
    manual Up before adds = record {
      down = before.down ∙ sym (down_same Manual i (entry_of seat (Set i Up) Done) older refl
          (ap (λ b. brings (λ e. not (is_up_setting e)) (if b then Some events.Up else None) && true) same));
      fails = sym (ap (prefix_len is_fail) (more Up adds));
      passes = sym (ap (prefix_len is_pass) (more Up adds));
    }
    manual Down before adds = record {
      down = ap Some (sym long) ∙ sym (ap (λ b. if brings (λ e. not (is_up_setting e)) (if b then Some events.Down else None) && true then Some (length older) else down_since older i Manual) same);
      fails = sym (ap (prefix_len is_fail) (more Down adds));
      passes = sym (ap (prefix_len is_pass) (more Down adds));
    }

    no_fit : (fall rise : ℕ) (start : Start) (s : Setting) → fits (Threshold fall rise start) (event_of_setting s) ≡ true → ⊥
    no_fit fall rise start Up never = let no : false ≡ true = never in absurd (cc)
    no_fit fall rise start Down never = let no : false ≡ true = never in absurd (cc)

    by_rule : (r : Rule) → HasHeard older i mark r
        → (with_event r (is_shut older) (Some (event_of_setting setting)) (heard older i r) ≡ event_of_setting setting ∷ heard older i r) × (fits r (event_of_setting setting) ≡ true)
        → HasHeard (entry_of seat (Set i setting) Done ∷ older) i (set_to setting at mark) r
    by_rule (Threshold fall rise start) before adds = absurd (no_fit fall rise start setting adds.1)
    by_rule Manual before adds = manual setting before adds.0
    by_rule (Depends mask) before adds = let no : false ≡ true = adds.1 in absurd (cc)

-- the mark of a slot behind its retirement
retired_now : (i at seat : ℕ) (reply : Reply) (older : List Entry) (mark : Mark) → length older ≡ at → (i == i) ≡ true → IsMark older i mark
    → IsMark (entry_of seat (Retire i) reply ∷ older) i (if is_done reply then record { retired = Some at; forgot = mark.forgot; down = mark.down; fails = mark.fails; passes = mark.passes } else mark)
retired_now i at seat reply older mark long same is = by_reply (is_done reply) refl
  where
    gone : rule_at (entry_of seat (Retire i) reply ∷ older) i ≡ None
    gone = ap (λ b. unwrap_or (option_or (if b then Some None else None) (last_said (says_rule i) older)) None) same

    by_reply : (b : Bool) → is_done reply ≡ b
        → IsMark (entry_of seat (Retire i) reply ∷ older) i (if b then record { retired = Some at; forgot = mark.forgot; down = mark.down; fails = mark.fails; passes = mark.passes } else mark)
    by_reply true done = record {
      retired = ap Some (sym long) ∙ sym (ap (λ b. if b && is_done reply then Some (length older) else newest (retires i) older) same
          ∙ ap (λ b. if b then Some (length older) else newest (retires i) older) done);
      forgot = is.forgot;
      heard = λ rule here. let no : None ≡ Some rule = sym gone ∙ here in absurd (cc);
    }
    by_reply false not_done = record {
      retired = is.retired ∙ sym (ap (λ b. if b && is_done reply then Some (length older) else newest (retires i) older) same
          ∙ ap (λ b. if b then Some (length older) else newest (retires i) older) not_done);
      forgot = is.forgot;
      heard = λ rule here. let no : None ≡ Some rule = sym gone ∙ here in absurd (cc);
    }

done_so : (reply : Reply) → is_done reply ≡ true → reply ≡ Done
done_so Done is = refl
done_so Replaced is = let no : false ≡ true = is in absurd (cc)
done_so Missing is = let no : false ≡ true = is in absurd (cc)
done_so WrongKind is = let no : false ≡ true = is in absurd (cc)
done_so Ignored is = let no : false ≡ true = is in absurd (cc)

-- the mark of each slot behind one entry more
mark_next : (seat i at : ℕ) (call : Call) (reply : Reply) (rule : Option Rule) (older : List Entry) (mark : Mark) → length older ≡ at → at + 1 < 4294967296
    → IsRuleFor older call rule → reply ≡ reply_to older call → IsMark older i mark → IsMark (entry_of seat call reply ∷ older) i (next_mark i call reply rule at mark)
mark_next seat i at (Register slot rule') reply rule older mark long few fits_it replied is = by_slot (slot == i) refl
  where
    entry : Entry
    entry = entry_of seat (Register slot rule') reply

    by_slot : (b : Bool) → (slot == i) ≡ b → IsMark (entry ∷ older) i (if b then begun at mark else mark)
    by_slot true same = begins_anew i at entry older mark long refl same refl is
    by_slot false other = not_its i entry older mark refl other (ap (λ b. if b then Some (Some rule') else None) other) refl is
mark_next seat i at (Retire slot) reply rule older mark long few fits_it replied is = by_slot (slot == i) refl
  where
    entry : Entry
    entry = entry_of seat (Retire slot) reply

    gone : Mark
    gone = record { retired = Some at; forgot = mark.forgot; down = mark.down; fails = mark.fails; passes = mark.passes }

    by_slot : (b : Bool) → (slot == i) ≡ b → IsMark (entry ∷ older) i (if b && is_done reply then gone else mark)
    by_slot true same =
        let one : slot ≡ i = eqb-true slot i same in
        subst (λ s. IsMark (entry_of seat (Retire s) reply ∷ older) i (if is_done reply then gone else mark)) (sym one)
        (retired_now i at seat reply older mark long (ap (λ s. s == i) (sym one) ∙ same) is)
    by_slot false other = not_its i entry older mark other refl (ap (λ b. if b then Some None else None) other) refl is
mark_next seat i at (Observe slot finding) reply rule older mark long few fits_it replied is = by_slot (slot == i) refl
  where
    by_reply : (b : Bool) → is_done reply ≡ b → (i == i) ≡ true → rule ≡ rule_at older i → reply ≡ reply_to_event (rule_at older i) (is_shut older) (event_of_finding finding)
        → IsMark (entry_of seat (Observe i finding) reply ∷ older) i (if b then found finding (fall_of rule) at mark else mark)
    by_reply true done same rule_is said =
        let now : reply ≡ Done = done_so reply done in
        subst (λ r. IsMark (entry_of seat (Observe i finding) r ∷ older) i (found finding (fall_of rule) at mark)) (sym now)
        (report_heard i at seat finding older mark rule long few same rule_is (sym now ∙ said) is)
    by_reply false not_done same rule_is said =
        not_heard i (entry_of seat (Observe i finding) reply) older mark (event_of_finding finding) refl refl refl
        (ap (λ b. if b then Some (event_of_finding finding) else None) same) said not_done is

    by_slot : (b : Bool) → (slot == i) ≡ b → IsMark (entry_of seat (Observe slot finding) reply ∷ older) i (if b && is_done reply then found finding (fall_of rule) at mark else mark)
    by_slot true same =
        let one : slot ≡ i = eqb-true slot i same in
        subst (λ s. IsMark (entry_of seat (Observe s finding) reply ∷ older) i (if is_done reply then found finding (fall_of rule) at mark else mark)) (sym one)
        (by_reply (is_done reply) refl (ap (λ s. s == i) (sym one) ∙ same) (fits_it ∙ ap (rule_at older) one)
        (replied ∙ ap (λ s. reply_to_event (rule_at older s) (is_shut older) (event_of_finding finding)) one))
    by_slot false other =
        not_its i (entry_of seat (Observe slot finding) reply) older mark refl refl refl (ap (λ b. if b then Some (event_of_finding finding) else None) other) is
mark_next seat i at (Set slot setting) reply rule older mark long few fits_it replied is = by_slot (slot == i) refl
  where
    by_reply : (b : Bool) → is_done reply ≡ b → (i == i) ≡ true → reply ≡ reply_to_event (rule_at older i) (is_shut older) (event_of_setting setting)
        → IsMark (entry_of seat (Set i setting) reply ∷ older) i (if b then set_to setting at mark else mark)
    by_reply true done same said =
        let now : reply ≡ Done = done_so reply done in
        subst (λ r. IsMark (entry_of seat (Set i setting) r ∷ older) i (set_to setting at mark)) (sym now)
        (set_heard i at seat setting older mark long same (sym now ∙ said) is)
    by_reply false not_done same said =
        not_heard i (entry_of seat (Set i setting) reply) older mark (event_of_setting setting) refl refl refl
        (ap (λ b. if b then Some (event_of_setting setting) else None) same) said not_done is

    by_slot : (b : Bool) → (slot == i) ≡ b → IsMark (entry_of seat (Set slot setting) reply ∷ older) i (if b && is_done reply then set_to setting at mark else mark)
    by_slot true same =
        let one : slot ≡ i = eqb-true slot i same in
        subst (λ s. IsMark (entry_of seat (Set s setting) reply ∷ older) i (if is_done reply then set_to setting at mark else mark)) (sym one)
        (by_reply (is_done reply) refl (ap (λ s. s == i) (sym one) ∙ same)
        (replied ∙ ap (λ s. reply_to_event (rule_at older s) (is_shut older) (event_of_setting setting)) one))
    by_slot false other =
        not_its i (entry_of seat (Set slot setting) reply) older mark refl refl refl (ap (λ b. if b then Some (event_of_setting setting) else None) other) is
mark_next seat i at Shutdown reply rule older mark long few fits_it replied is = not_its i (entry_of seat Shutdown reply) older mark refl refl refl refl is
mark_next seat i at Resume reply rule older mark long few fits_it replied is = begins_anew i at (entry_of seat Resume reply) older mark long refl refl refl is

-- and the newest entry that shut the server down
shut_next : (seat at : ℕ) (call : Call) (reply : Reply) (older : List Entry) (shut : Option ℕ) → length older ≡ at → shut ≡ newest shuts older
    → next_shut call at shut ≡ newest shuts (entry_of seat call reply ∷ older)
shut_next seat at (Register slot rule) reply older shut long is = is
shut_next seat at (Retire slot) reply older shut long is = is
shut_next seat at (Observe slot finding) reply older shut long is = is
shut_next seat at (Set slot setting) reply older shut long is = is
shut_next seat at Shutdown reply older shut long is = ap Some (sym long)
shut_next seat at Resume reply older shut long is = is

-- all marks behind one entry more
pub marks_more : (seat at : ℕ) (call : Call) (reply : Reply) (rule : Option Rule) (journal new : List Entry) (shut shut' : Option ℕ) (marks marks' : List Mark)
    → at ≡ length journal → length journal + 1 < 4294967296 → IsRuleFor (past journal) call rule → reply ≡ reply_to (past journal) call
    → new ≡ journal ++ entry_of seat call reply ∷ [] → shut' ≡ next_shut call at shut
    → ((i : ℕ) (other : Mark) → i < 16 → get_or marks' i other ≡ next_mark i call reply rule at (get_or marks i other))
    → HasMarks (past journal) shut marks → HasMarks (past new) shut' marks'
marks_more seat at call reply rule journal new shut shut' marks marks' at_is few fits_it replied new_is shut_is each has =
    let older : List Entry = past journal in
    let long : length older ≡ at = length-reverse journal ∙ sym at_is in
    subst (λ entries. HasMarks entries shut' marks') (sym (ap past new_is ∙ past_more journal (entry_of seat call reply))) record {
      shut_by = shut_is ∙ shut_next seat at call reply older shut long has.shut_by;
      each = λ i other below. subst (IsMark (entry_of seat call reply ∷ older) i) (sym (each i other below))
          (mark_next seat i at call reply rule older (get_or marks i other) long (omega (arith, at_is, few)) fits_it replied (has.each i other below));
    }
