-- What a call makes of bytes by itself, and how its stages end.
use Rattle.std.proofs.Common.{◌≡◌, ◌≤◌, ◌<◌, ◌+◌, ◌-◌, ℕ, inl, inr, Bool, true, false, not, Some, None, is_some, List, [], ◌∷◌, ◌++◌, length, take, drop, refl, ap, sym, ◌∙◌, subst, append-nil, arith, rules, true≢false}
use Rattle.std.proofs.lemmas.List.{length-drop, take-append-drop}
use Rattle.std.proofs.lemmas.List.Elements.{All-cons, All-nil}
use Rattle.desk_core.specs.declared.entry.Entry.{Entry}
use Rattle.std.specs.Int.{from_bool}
use Rattle.std.specs.Prelude.{All, ◌||◌}
use Rattle.web_call.specs.declared.bell.Turn.{Turn}
use Rattle.web_call.specs.declared.bell.Turn.TheVariants.{Look, End}
use Rattle.web_call.specs.declared.call.Call.{Call}
use Rattle.web_call.specs.declared.call.CallStage.{CallStage}
use Rattle.web_call.specs.declared.call.CallStage.TheVariants as stages
use Rattle.web_call.specs.declared.intake.Reading.{Reading}
use Rattle.web_call.specs.declared.intake.Reading.TheVariants as readings
use Rattle.web_call.specs.declared.outcome.Outcome.{Outcome}
use Rattle.web_call.specs.declared.outcome.Outcome.TheVariants.{Behind, Watched}
use Rattle.web_call.specs.Answer.{Source}
use Rattle.web_call.specs.Past.{Carries, CarriesFor, Past, with_asked, with_received, with_sent}
use Rattle.web_call.specs.Reading as reading
use Rattle.web_call.specs.Stages.{answers, asks, ending_of, ends_watch, ends_with, is_answered, is_open, is_starved, is_watching, is_whole, may_ask, opens, starves, waits, watches}
use Rattle.web_call.specs.Walk.{AsksDoor}
use Rattle.web_call.proofs.WalkLemmas.{AsksDoor-none}
use Rattle.reactor.specs.Calling.{DoorHasServed, HasTaken, IsFrom, IsNotEnded, ahead, taken_by}
use Rattle.reactor.specs.CallingLaws.{stands_as, taken_none}
use Rattle.reactor.specs.Moved.{only_read, only_sent, only_stepped}

none_some : {X : Type 0} (outcome : Outcome) → None ≡ Some outcome → X
none_some outcome e = absurd (grind (arith, ap is_some e))

unanswered_has_no_ending : {X : Type 0} (stage : CallStage) (outcome : Outcome) → answers stage ≡ false → ends_with stage ≡ Some outcome → X
unanswered_has_no_ending (stages.Reading intake) outcome is e = none_some outcome e
unanswered_has_no_ending (stages.Watching watch) outcome is e = none_some outcome e
unanswered_has_no_ending (stages.Ending ended) outcome is e = absurd (true≢false is)
unanswered_has_no_ending stages.Starved outcome is e = none_some outcome e

open_is_unanswered : (stage : CallStage) → opens stage ≡ true → answers stage ≡ false
open_is_unanswered (stages.Reading intake) is = refl
open_is_unanswered (stages.Watching watch) is = absurd (true≢false (sym is))
open_is_unanswered (stages.Ending outcome) is = absurd (true≢false (sym is))
open_is_unanswered stages.Starved is = absurd (true≢false (sym is))

unanswered_watches_none : (stage : CallStage) → answers stage ≡ false → watches stage ≡ false
unanswered_watches_none (stages.Reading intake) is = refl
unanswered_watches_none (stages.Watching watch) is = absurd (true≢false is)
unanswered_watches_none (stages.Ending outcome) is = refl
unanswered_watches_none stages.Starved is = refl

ending_watches_none : (stage : CallStage) (outcome : Outcome) → ends_with stage ≡ Some outcome → watches stage ≡ false
ending_watches_none (stages.Reading intake) outcome is = refl
ending_watches_none (stages.Watching watch) outcome is = none_some outcome is
ending_watches_none (stages.Ending ended) outcome is = refl
ending_watches_none stages.Starved outcome is = refl

one_at_most : (b : Bool) → from_bool b ≤ 1
one_at_most true = omega arith
one_at_most false = omega arith

-- how often the door may still be asked
asks_once : (stage : CallStage) → asks stage ≤ 1
asks_once (stages.Reading intake) = by_reading intake.reading
  where
    by_reading : (at : Reading) → from_bool (reading.is_open at || reading.is_whole at) ≤ 1
    by_reading readings.Head = omega arith
    by_reading (readings.Body left) = omega arith
    by_reading readings.Whole = omega arith
    by_reading readings.Starved = omega arith
asks_once (stages.Watching watch) = omega arith
asks_once (stages.Ending outcome) = omega arith
asks_once stages.Starved = omega arith

pub answered_is_closed : (stage : CallStage) → answers stage ≡ true → opens stage ≡ false
answered_is_closed (stages.Reading intake) is = absurd (true≢false (sym is))
answered_is_closed (stages.Watching watch) is = refl
answered_is_closed (stages.Ending outcome) is = refl
answered_is_closed stages.Starved is = refl

answered_asks_no_more : (stage : CallStage) → answers stage ≡ true → asks stage ≡ 0
answered_asks_no_more (stages.Reading intake) is = absurd (true≢false (sym is))
answered_asks_no_more (stages.Watching watch) is = refl
answered_asks_no_more (stages.Ending outcome) is = refl
answered_asks_no_more stages.Starved is = refl

starved_is_closed : (stage : CallStage) → starves stage ≡ true → opens stage ≡ false
starved_is_closed (stages.Reading intake) is = by_reading intake.reading is
  where
    by_reading : (at : Reading) → reading.starves at ≡ true → reading.is_open at ≡ false
    by_reading readings.Head starved = absurd (true≢false (sym starved))
    by_reading (readings.Body left) starved = absurd (true≢false (sym starved))
    by_reading readings.Whole starved = refl
    by_reading readings.Starved starved = refl
starved_is_closed (stages.Watching watch) is = refl
starved_is_closed (stages.Ending outcome) is = refl
starved_is_closed stages.Starved is = refl

starved_asks_no_more : (stage : CallStage) → starves stage ≡ true → asks stage ≡ 0
starved_asks_no_more (stages.Reading intake) is = by_reading intake.reading is
  where
    by_reading : (at : Reading) → reading.starves at ≡ true → from_bool (reading.is_open at || reading.is_whole at) ≡ 0
    by_reading readings.Head starved = absurd (true≢false (sym starved))
    by_reading (readings.Body left) starved = absurd (true≢false (sym starved))
    by_reading readings.Whole starved = absurd (true≢false (sym starved))
    by_reading readings.Starved starved = refl
starved_asks_no_more (stages.Watching watch) is = refl
starved_asks_no_more (stages.Ending outcome) is = refl
starved_asks_no_more stages.Starved is = refl

open_may_ask : (stage : CallStage) → opens stage ≡ true → asks stage ≡ 1
open_may_ask (stages.Reading intake) is = by_reading intake.reading is
  where
    by_reading : (at : Reading) → reading.is_open at ≡ true → from_bool (reading.is_open at || reading.is_whole at) ≡ 1
    by_reading readings.Head wants = refl
    by_reading (readings.Body left) wants = refl
    by_reading readings.Whole wants = absurd (true≢false (sym wants))
    by_reading readings.Starved wants = absurd (true≢false (sym wants))
open_may_ask (stages.Watching watch) is = absurd (true≢false (sym is))
open_may_ask (stages.Ending outcome) is = absurd (true≢false (sym is))
open_may_ask stages.Starved is = absurd (true≢false (sym is))

whole_may_ask : (stage : CallStage) → waits stage ≡ true → (asks stage ≡ 1) × (opens stage ≡ false)
whole_may_ask (stages.Reading intake) is = by_reading intake.reading is
  where
    by_reading : (at : Reading) → reading.is_whole at ≡ true → (from_bool (reading.is_open at || reading.is_whole at) ≡ 1) × (reading.is_open at ≡ false)
    by_reading readings.Head whole = absurd (true≢false (sym whole))
    by_reading (readings.Body left) whole = absurd (true≢false (sym whole))
    by_reading readings.Whole whole = (refl, refl)
    by_reading readings.Starved whole = absurd (true≢false (sym whole))
whole_may_ask (stages.Watching watch) is = absurd (true≢false (sym is))
whole_may_ask (stages.Ending outcome) is = absurd (true≢false (sym is))
whole_may_ask stages.Starved is = absurd (true≢false (sym is))

watching_is_closed : (stage : CallStage) → watches stage ≡ true → opens stage ≡ false
watching_is_closed (stages.Reading intake) is = absurd (true≢false (sym is))
watching_is_closed (stages.Watching watch) is = refl
watching_is_closed (stages.Ending outcome) is = absurd (true≢false (sym is))
watching_is_closed stages.Starved is = absurd (true≢false (sym is))

watching_has_no_ending : {X : Type 0} (stage : CallStage) (outcome : Outcome) → watches stage ≡ true → ends_with stage ≡ Some outcome → X
watching_has_no_ending (stages.Reading intake) outcome is e = none_some outcome e
watching_has_no_ending (stages.Watching watch) outcome is e = none_some outcome e
watching_has_no_ending (stages.Ending ended) outcome is e = absurd (true≢false (sym is))
watching_has_no_ending stages.Starved outcome is e = none_some outcome e

-- bytes were given to a call
pub given : (call call_now : Call) (bytes : List ℕ) (n : ℕ) (takes : ℕ) → n ≤ length bytes → length bytes ≤ takes → (is_open call ≡ false → takes ≡ 0)
    → Carries call call_now (with_received (take n bytes)) → (n < length bytes → is_open call_now ≡ false)
    → (is_open call ≡ false → (n ≡ 0) × (call_now ≡ call)) → is_answered call_now ≡ is_answered call → HasTaken call call_now (only_read bytes (length bytes - n))
given call call_now bytes n takes bound room none carries rest closed same = record {
  has_grown = record {
    received = take n bytes;
    behind = drop n bytes;
    is_read = sym (take-append-drop n bytes);
    is_behind = sym (length-drop n bytes);
    carries = λ source _ past h. stands_as source call_now (past.received ++ take n bytes) (past.received ++ take n bytes) past.sent (past.sent ++ []) past.asked (past.asked ++ [])
        refl (sym (append-nil past.sent)) (sym (append-nil past.asked)) (carries source past h);
    whole = λ some. rest (omega (arith, some));
    no_end = refl;
    closed = λ is. (no_bytes bytes (omega (arith, room, none is)), omega (arith, room, none is), ap is_open (closed is).1 ∙ is);
  };
  asks = by_open (is_open call) refl;
  no_step = refl;
  made = made_none (is_open call) refl;
  lasts = λ messages is. by_stage (is_open call) refl messages is;
}
  where
    no_bytes : (bytes : List ℕ) → length bytes ≤ 0 → bytes ≡ []
    no_bytes [] few = refl
    no_bytes (c ∷ bytes) few = absurd (omega (arith, few))

    by_open : (o : Bool) → is_open call ≡ o → may_ask call_now ≤ may_ask call
    by_open true o = omega (arith, open_may_ask call.stage o, asks_once call_now.stage)
    by_open false o = omega (arith, ap may_ask (closed o).1)

    made_none : (o : Bool) → is_open call ≡ o → ahead call_now ≤ ahead call
    made_none true o =
        let is = unanswered_watches_none call_now.stage (same ∙ open_is_unanswered call.stage o) in
        omega (arith, open_may_ask call.stage o, asks_once call_now.stage, ap from_bool is)
    made_none false o = omega (arith, ap ahead (closed o).1)

    by_stage : (o : Bool) → is_open call ≡ o → IsNotEnded call call_now
    by_stage true o messages is = unanswered_has_no_ending call_now.stage (Watched messages) (same ∙ open_is_unanswered call.stage o) is
    by_stage false o messages is = ap ending_of (sym (closed o).1) ∙ is

-- bytes of a call were sent
pub was_sent : (call call_now : Call) (bytes : List ℕ) → Carries call call_now (with_sent bytes) → ending_of call_now ≡ ending_of call → is_watching call_now ≡ is_watching call
    → (is_open call_now ≡ is_open call) × (may_ask call_now ≡ may_ask call) → HasTaken call call_now (only_sent bytes)
was_sent call call_now bytes carries ending watching reads = record {
  has_grown = record {
    received = [];
    behind = [];
    is_read = refl;
    is_behind = refl;
    carries = λ source _ past h. stands_as source call_now past.received (past.received ++ []) (past.sent ++ bytes) (past.sent ++ bytes) past.asked (past.asked ++ [])
        (sym (append-nil past.received)) refl (sym (append-nil past.asked)) (carries source past h);
    whole = λ some. absurd (omega (arith, some));
    no_end = refl;
    closed = λ is. (refl, refl, reads.0 ∙ is);
  };
  asks = omega (arith, reads.1);
  no_step = refl;
  made = omega (arith, reads.1, ap from_bool watching);
  lasts = λ messages is. sym ending ∙ is;
}

one_step : (from source : Source) → from ≡ source → All (λ step. step ≡ source) (from ∷ [])
one_step from source same = All-cons (λ step. step ≡ source) from [] same (All-nil (λ step. step ≡ source))

-- what a step carries over its source it carries over each source that the step is from
carries_from : (source other from : Source) (call call_now : Call) (more : Past → Past)
    → CarriesFor source call call_now more → IsFrom source other (only_stepped from)
    → CarriesFor other call call_now more
carries_from source other from call call_now more carries (inl same) =
    subst (λ s. CarriesFor s call call_now more) (sym same) carries
carries_from source other from call call_now more carries (inr none) =
    absurd (omega (arith, ap length none))

module _ {D : Type 0} {source : Source} {seen : D → List Entry} {names : D → List (List ℕ)} {follows : List Entry → List Entry → Type 0} {stays : D → D → Type 0} where
  -- a door was asked for a call
  served_asked : (turn : Turn) (from : Source) → from ≡ source → {door door_now : D} {call call_now : Call} {asked : List (List Entry)} → AsksDoor seen follows door door_now asked
      → CarriesFor source call call_now (with_asked asked) → names door_now ≡ names door → stays door door_now
      → (turn ≡ End → length asked + may_ask call_now ≤ may_ask call) → (turn ≡ Look → IsNotEnded call call_now) → is_open call_now ≡ false
      → 1 + ahead call_now ≤ length asked + ahead call
      → DoorHasServed source seen names follows stays turn door door_now call call_now (only_stepped from) asked
  served_asked turn from same {call = call} {call_now = call_now} {asked = asked} asks carries same_names same_door once lasts shut made = record {
    has_grown = record {
      received = [];
      behind = [];
      is_read = refl;
      is_behind = refl;
      carries = λ other is past h. stands_as other call_now past.received (past.received ++ []) past.sent (past.sent ++ []) (past.asked ++ asked) (past.asked ++ asked)
          (sym (append-nil past.received)) (sym (append-nil past.sent)) refl (carries_from source other from call call_now (with_asked asked) carries is past h);
      whole = λ some. absurd (omega (arith, some));
      no_end = refl;
      closed = λ is. (refl, refl, shut);
    };
    by = one_step from source same;
    asks = asks;
    same_names = same_names;
    same_door = same_door;
    once = once;
    made = made;
    lasts = lasts;
  }

  -- it was asked for the request
  pub was_answered : (turn : Turn) (from : Source) → from ≡ source → {door door_now : D} {call call_now : Call} → is_whole call ≡ true → (asked : List (List Entry)) → length asked ≤ 1
      → AsksDoor seen follows door door_now asked → CarriesFor source call call_now (with_asked asked) → names door_now ≡ names door → stays door door_now
      → is_answered call_now ≡ not (is_starved call_now) → ends_watch (ending_of call_now) ≡ false
      → DoorHasServed source seen names follows stays turn door door_now call call_now (only_stepped from) asked
  was_answered turn from same {call = call} {call_now = call_now} whole asked few asks carries same_names same_door ready no_end =
      let over = by_end (is_starved call_now) refl in
      served_asked turn from same asks carries same_names same_door (λ ends. omega (arith, few, over.0, (whole_may_ask call.stage whole).0))
      (λ looks messages is. absurd (true≢false (sym (ap ends_watch is) ∙ no_end))) over.1
      (omega (arith, over.0, (whole_may_ask call.stage whole).0, one_at_most (is_watching call_now)))
    where
      by_end : (s : Bool) → is_starved call_now ≡ s → (may_ask call_now ≡ 0) × (is_open call_now ≡ false)
      by_end true s = (starved_asks_no_more call_now.stage s, starved_is_closed call_now.stage s)
      by_end false s = let is = ready ∙ ap not s in (answered_asks_no_more call_now.stage is, answered_is_closed call_now.stage is)

  -- a Watch was let look
  pub has_looked : (from : Source) → from ≡ source → {door door_now : D} {call call_now : Call} {asked : List (List Entry)} → is_watching call ≡ true → AsksDoor seen follows door door_now asked
      → CarriesFor source call call_now (with_asked asked) → names door_now ≡ names door → stays door door_now → is_answered call_now ≡ true
      → (is_watching call_now ≡ false → (messages : ℕ) × (ending_of call_now ≡ Some (Behind messages))) → length asked ≡ 1
      → DoorHasServed source seen names follows stays Look door door_now call call_now (only_stepped from) asked
  has_looked from same {call = call} {call_now = call_now} {asked = asked} watching asks carries same_names same_door is behind single =
      served_asked Look from same asks carries same_names same_door (λ ends. absurd (look_is_no_end ends))
      (λ looks. by_watching (is_watching call_now) refl)
      (answered_is_closed call_now.stage is)
      (omega (arith, single, answered_asks_no_more call_now.stage is, one_at_most (is_watching call_now), ap from_bool watching))
    where
      look_is_no_end : Look ≡ End → ⊥
      look_is_no_end e = search rules

      not_both : (m n : ℕ) → Some (Watched m) ≡ Some (Behind n) → ⊥
      not_both m n e = search rules

      by_watching : (w : Bool) → is_watching call_now ≡ w → IsNotEnded call call_now
      by_watching true w messages e = watching_has_no_ending call_now.stage (Watched messages) w e
      by_watching false w messages e = absurd (not_both messages (behind w).0 (sym e ∙ (behind w).1))

  -- a Watch was ended
  pub has_ended : (from : Source) → from ≡ source → {door : D} {call call_now : Call} → is_watching call ≡ true → Carries call call_now (λ past. past) → stays door door → is_answered call_now ≡ true
      → (messages : ℕ) × (ending_of call_now ≡ Some (Watched messages))
      → DoorHasServed source seen names follows stays End door door call call_now (only_stepped from) []
  has_ended from same {call = call} {call_now = call_now} watching carries kept is ending =
      served_asked End from same AsksDoor-none (λ past h. stands_as source call_now past.received past.received past.sent past.sent past.asked (past.asked ++ []) refl refl
      (sym (append-nil past.asked)) (carries source past h)) refl kept
      (λ ends. omega (arith, answered_asks_no_more call_now.stage is)) (λ looks. absurd (end_is_no_look looks))
      (answered_is_closed call_now.stage is)
      (omega (arith, answered_asks_no_more call_now.stage is, ap from_bool watching, ap from_bool (ending_watches_none call_now.stage (Watched ending.0) ending.1)))
    where
      end_is_no_look : End ≡ Look → ⊥
      end_is_no_look e = search rules

-- a call that is not open takes nothing
pub shut_takes_none : (call : Call) → is_open call ≡ false → taken_by call ≡ 0
shut_takes_none call is = taken_none call (ap not is)
