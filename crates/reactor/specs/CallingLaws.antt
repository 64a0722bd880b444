-- Calls over a door: what one step and another, and one turn and another, come to.
use Rattle.std.proofs.Common.{◌≡◌, ◌≢◌, ◌<◌, ◌+◌, inl, inr, ℕ, zero, suc, Bool, true, false, List, [], ◌∷◌, ◌++◌, length, refl, ap, sym, ◌∙◌, subst, append_assoc, append-nil, length-append, arith, true≢false, not, if◌then◌else◌}
use Rattle.std.proofs.lemmas.List.Elements.{All-append, All-cons, All-head, All-nil, All-tail}
use Rattle.std.specs.Prelude.{All}
use Rattle.desk_core.specs.declared.entry.Entry.{Entry}
use Rattle.desk_core.specs.Legal.{IsLegal}
use Rattle.desk_core.specs.Watch.{last_of}
use Rattle.web_call.specs.declared.bell.Turn.{Turn}
use Rattle.web_call.specs.declared.call.Call.{Call}
use Rattle.web_call.specs.declared.call.CallStage.{CallStage}
use Rattle.web_call.specs.declared.call.CallStage.TheVariants as stages
use Rattle.web_call.specs.Answer.{Source, source_of}
use Rattle.web_call.specs.Past.{CarriesFor, Stands, begun}
use Rattle.web_call.specs.Stages.{is_open, is_watching, opens, watches}
use Rattle.web_call.specs.Walk.{InTurn}
use Rattle.web_call.proofs.WalkLemmas.{AsksDoor-again, AsksDoor-none, InTurn-append, last_of-append}
use Rattle.reactor.specs.Calling.{DoorStays, GoesOnFrom, HasGrown, DoorHasServed, HasSpanned, HasTaken, IsCallOf, IsFrom, IsTransitive, grown, taken_by}
use Rattle.reactor.specs.Moved.{Moved, followed_by, nothing_moved}

-- a past said in another way
pub stands_as : (source : Source) (call : Call) (received received_now sent sent_now : List ℕ) (asked asked_now : List (List Entry)) → received ≡ received_now
    → sent ≡ sent_now → asked ≡ asked_now → Stands source (record { received = received; sent = sent; asked = asked }) call
    → Stands source (record { received = received_now; sent = sent_now; asked = asked_now }) call
stands_as source call received received_now sent sent_now asked asked_now e f g h =
    subst (λ l. Stands source (record { received = received_now; sent = sent_now; asked = l }) call) g
    (subst (λ l. Stands source (record { received = received_now; sent = l; asked = asked }) call) f
    (subst (λ l. Stands source (record { received = l; sent = sent; asked = asked }) call) e h))

pub carries_none : (source : Source) (call : Call) → CarriesFor source call call (grown [] [] [])
carries_none source call past h = stands_as source call past.received (past.received ++ []) past.sent (past.sent ++ []) past.asked (past.asked ++ [])
    (sym (append-nil past.received)) (sym (append-nil past.sent)) (sym (append-nil past.asked)) h

pub carries_then : (source : Source) (call mid call_now : Call) (received more sent more_sent : List ℕ) (asked more_asked : List (List Entry))
    → CarriesFor source call mid (grown received sent asked) → CarriesFor source mid call_now (grown more more_sent more_asked)
    → CarriesFor source call call_now (grown (received ++ more) (sent ++ more_sent) (asked ++ more_asked))
carries_then source call mid call_now received more sent more_sent asked more_asked first second past h =
    stands_as source call_now ((past.received ++ received) ++ more) (past.received ++ (received ++ more)) ((past.sent ++ sent) ++ more_sent) (past.sent ++ (sent ++ more_sent))
    ((past.asked ++ asked) ++ more_asked) (past.asked ++ (asked ++ more_asked))
    (append_assoc past.received received more) (append_assoc past.sent sent more_sent) (append_assoc past.asked asked more_asked)
    (second (grown received sent asked past) (first past h))

-- a list has no item, or it has one
no_item : {A X : Type 0} (item : A) (items : List A) → item ∷ items ≡ [] → X
no_item item items none = absurd (omega (arith, ap length none))

none_first : (xs more : List ℕ) → [] ≡ xs ++ more → xs ≡ []
none_first [] more none = refl
none_first (c ∷ xs) more none = no_item c (xs ++ more) (sym none)

-- the bytes of two pieces of work, where nothing was read behind in the first or nothing received in the second
in_order : (received behind more later : List ℕ) → (behind ≢ [] → more ≡ []) → (received ++ behind) ++ (more ++ later) ≡ (received ++ more) ++ (behind ++ later)
in_order received [] more later none = ap (λ l. l ++ (more ++ later)) (append-nil received) ∙ sym (append_assoc received more later)
in_order received (c ∷ behind) more later none =
    subst (λ m. (received ++ (c ∷ behind)) ++ (m ++ later) ≡ (received ++ m) ++ ((c ∷ behind) ++ later)) (sym (none (λ e. no_item c behind e)))
    (append_assoc received (c ∷ behind) later ∙ sym (ap (λ l. l ++ ((c ∷ behind) ++ later)) (append-nil received)))

some_length : (bytes : List ℕ) → bytes ≢ [] → 0 < length bytes
some_length [] some = absurd (some refl)
some_length (c ∷ bytes) some = omega arith

pub grown_none : {over : Source → Type 0} (call : Call) → HasGrown over call call nothing_moved []
grown_none call = record {
  received = [];
  behind = [];
  is_read = refl;
  is_behind = refl;
  carries = λ source is. carries_none source call;
  whole = λ some. absurd (omega (arith, some));
  no_end = refl;
  closed = λ is. (refl, refl, is);
}

-- bytes came behind in the first of two pieces of work, or in the second
whole_then : (a b : ℕ) (open_mid open_now : Bool) → 0 < a + b → (0 < a → open_mid ≡ false) → (0 < b → open_now ≡ false) → (open_mid ≡ false → open_now ≡ false) → open_now ≡ false
whole_then zero b open_mid open_now some first second closed = second (omega (arith, some))
whole_then (suc a) b open_mid open_now some first second closed = closed (first (omega arith))

pub grown_then : {over one two : Source → Type 0} {call mid call_now : Call} {x y : Moved} {asked more : List (List Entry)} → ((source : Source) → over source → one source)
    → ((source : Source) → over source → two source) → HasGrown one call mid x asked → HasGrown two mid call_now y more
    → HasGrown over call call_now (followed_by x y) (asked ++ more)
grown_then {call = call} {mid = mid} {call_now = call_now} {x = x} {y = y} {asked = asked} {more = more} in_first in_second first second = record {
  received = first.received ++ second.received;
  behind = first.behind ++ second.behind;
  is_read = ap (λ l. l ++ y.read) first.is_read ∙ (ap (λ l. (first.received ++ first.behind) ++ l) second.is_read
      ∙ in_order first.received first.behind second.received second.behind
      (λ some. none_first second.received second.behind
      (sym (second.closed (first.whole (omega (arith, first.is_behind, some_length first.behind some)))).0 ∙ second.is_read)));
  is_behind = omega (arith, first.is_behind, second.is_behind, length-append first.behind second.behind);
  carries = λ source is. carries_then source call mid call_now first.received second.received x.sent y.sent asked more (first.carries source (in_first source is))
      (second.carries source (in_second source is));
  whole = λ some. whole_then x.behind y.behind (is_open mid) (is_open call_now) some first.whole second.whole (λ is. (second.closed is).2);
  no_end = omega (arith, first.no_end, second.no_end);
  closed = λ is.
      let one = first.closed is in
      let two = second.closed one.2 in
      (ap (λ l. l ++ y.read) one.0 ∙ two.0, omega (arith, one.1, two.1), two.2);
}

-- a history that goes on
goes_further : {follows : List Entry → List Entry → Type 0} → IsTransitive follows → (a b c : List Entry) → GoesOnFrom follows a b → follows b c → follows a c
goes_further {follows} on a b c (inl same) next = subst (λ entries. follows entries c) same next
goes_further on a b c (inr before) next = on a b c before next

goes_last : {follows : List Entry → List Entry → Type 0} → IsTransitive follows → (entries seen : List Entry) (asked : List (List Entry)) → GoesOnFrom follows entries seen
    → InTurn follows seen asked → GoesOnFrom follows entries (last_of seen asked)
goes_last on entries seen [] from turns = from
goes_last on entries seen (next ∷ later) from turns = goes_last on entries next later (inr (goes_further on entries seen next from turns.0)) turns.2

turns_on : {follows : List Entry → List Entry → Type 0} → IsTransitive follows → (entries seen : List Entry) (asked : List (List Entry))
    → GoesOnFrom follows entries seen → InTurn follows seen asked → InTurn follows entries asked
turns_on on entries seen [] from turns = tt
turns_on on entries seen (next ∷ later) from turns = (goes_further on entries seen next from turns.0, turns.1, turns.2)

reaches_on : (follows : List Entry → List Entry → Type 0) (entries seen now : List Entry) (asked : List (List Entry)) → GoesOnFrom follows entries seen
    → now ≡ last_of seen asked → GoesOnFrom follows (last_of entries asked) now
reaches_on follows entries seen now [] from last = subst (λ l. GoesOnFrom follows entries l) (sym last) from
reaches_on follows entries seen now (next ∷ later) from last = inl last

-- two lists of which nothing is left are empty
none_of_two : {A : Type 0} (xs more : List A) → xs ++ more ≡ [] → (xs ≡ []) × (more ≡ [])
none_of_two [] more none = (refl, none)
none_of_two (x ∷ xs) more none = no_item x (xs ++ more) none

-- what is from a source in two pieces of work is from it in each
from_parts : {source other : Source} (x y : Moved) → IsFrom source other (followed_by x y) → IsFrom source other x × IsFrom source other y
from_parts x y (inl same) = (inl same, inl same)
from_parts x y (inr none) = let parts = none_of_two x.steps y.steps none in (inr parts.0, inr parts.1)

-- all steps of two pieces of work
all_of_two : {A : Type 0} (P : A → Type 0) (xs more : List A) → All P (xs ++ more) → All P xs × All P more
all_of_two P [] more all = (All-nil P, all)
all_of_two P (x ∷ xs) more all =
    let rest = all_of_two P xs more (All-tail P x (xs ++ more) all) in
    (All-cons P x xs (All-head P x (xs ++ more) all) rest.0, rest.1)

-- steps all of one source, and all of another, are from both
from_both : (source other : Source) (moved : Moved) (steps : List Source) → moved.steps ≡ steps → All (λ step. step ≡ source) steps → All (λ step. step ≡ other) steps
    → IsFrom source other moved
from_both source other moved [] is ours theirs = inr is
from_both source other moved (step ∷ steps) is ours theirs =
    inl (sym (All-head (λ s. s ≡ other) step steps theirs) ∙ All-head (λ s. s ≡ source) step steps ours)

-- the histories at which a door is asked are legal
all_legal : (follows : List Entry → List Entry → Type 0) (entries : List Entry) (asked : List (List Entry)) → InTurn follows entries asked → All IsLegal asked
all_legal follows entries [] turns = All-nil IsLegal
all_legal follows entries (next ∷ later) turns = All-cons IsLegal next later turns.1 (all_legal follows next later turns.2)

-- a call that begins, by how it stands then
pub call_begins : {call : Call} → ((source : Source) → Stands source begun call) → IsCallOf nothing_moved call
call_begins begins = record {
  received = [];
  behind = [];
  asked = [];
  is_read = refl;
  is_behind = refl;
  stands = λ source by. begins source;
  legal = All-nil IsLegal;
  whole = λ some. absurd (omega (arith, some));
  no_end = refl;
}

-- a call that has moved something goes on over a door
pub call_goes_on : {D : Type 0} {source : Source} {seen : D → List Entry} {names : D → List (List ℕ)} {follows : List Entry → List Entry → Type 0} {stays : D → D → Type 0}
    {turn : Turn} {door door_now : D} {call call_now : Call} {past x : Moved} {asked : List (List Entry)} → IsCallOf past call
    → DoorHasServed source seen names follows stays turn door door_now call call_now x asked → IsCallOf (followed_by past x) call_now
call_goes_on {source = source} {seen = seen} {follows = follows} {door = door} {call = call} {call_now = call_now} {past = past} {x = x} {asked = asked} first served =
    let second = served.has_grown in
    record {
      received = first.received ++ second.received;
      behind = first.behind ++ second.behind;
      asked = first.asked ++ asked;
      is_read = ap (λ l. l ++ x.read) first.is_read ∙ (ap (λ l. (first.received ++ first.behind) ++ l) second.is_read
          ∙ in_order first.received first.behind second.received second.behind
          (λ some. none_first second.received second.behind
          (sym (second.closed (first.whole (omega (arith, first.is_behind, some_length first.behind some)))).0 ∙ second.is_read)));
      is_behind = omega (arith, first.is_behind, second.is_behind, length-append first.behind second.behind);
      stands = λ other by.
          let parts = all_of_two (λ step. step ≡ other) past.steps x.steps by in
          second.carries other (from_both source other x x.steps refl served.by parts.1) (record { received = first.received; sent = past.sent; asked = first.asked })
          (first.stands other parts.0);
      legal = All-append IsLegal first.asked asked first.legal (all_legal follows (seen door) asked served.asks.in_turn);
      whole = λ some. whole_then past.behind x.behind (is_open call) (is_open call_now) some first.whole second.whole (λ is. (second.closed is).2);
      no_end = omega (arith, first.no_end, second.no_end);
    }

module _ {D : Type 0} {seen : D → List Entry} {names : D → List (List ℕ)} {follows : List Entry → List Entry → Type 0} where
  pub spans_nothing : (source : Source) (door : D) (call : Call) → HasSpanned source seen names follows door door call call nothing_moved []
  spans_nothing source door call = record { has_grown = grown_none call; in_turn = tt; goes_on = inl refl; same_names = refl }

module _ {D : Type 0} {seen : D → List Entry} {names : D → List (List ℕ)} {follows : List Entry → List Entry → Type 0} {stays : D → D → Type 0} where
  pub served_nowhere : (source : Source) (turn : Turn) (door : D) (call : Call) → stays door door → DoorHasServed source seen names follows stays turn door door call call nothing_moved []
  served_nowhere source turn door call same = record {
    has_grown = grown_none call;
    by = All-nil (λ step. step ≡ source);
    asks = AsksDoor-none;
    same_names = refl;
    same_door = same;
    once = λ ends. omega arith;
    made = omega arith;
    lasts = λ looks messages is. is;
  }

  pub served_alone : (source : Source) (turn : Turn) (door : D) {call call_now : Call} {moved : Moved} → stays door door → HasTaken call call_now moved
      → DoorHasServed source seen names follows stays turn door door call call_now moved []
  served_alone source turn door same taken = record {
    has_grown = record {
      received = taken.has_grown.received;
      behind = taken.has_grown.behind;
      is_read = taken.has_grown.is_read;
      is_behind = taken.has_grown.is_behind;
      carries = λ other is. taken.has_grown.carries other tt;
      whole = taken.has_grown.whole;
      no_end = taken.has_grown.no_end;
      closed = taken.has_grown.closed;
    };
    by = subst (All (λ step. step ≡ source)) (sym taken.no_step) (All-nil (λ step. step ≡ source));
    asks = AsksDoor-none;
    same_names = refl;
    same_door = same;
    once = λ ends. omega (arith, taken.asks);
    made = omega (arith, ap length taken.no_step, taken.made);
    lasts = λ looks. taken.lasts;
  }

  pub served_then : (kept : _) (is_plain : Bool) {turn : Turn} {door between door_now : D} {call mid call_now : Call} {x y : Moved} {asked more : List (List Entry)}
      → (stays door between → stays between door_now → stays door door_now)
      → DoorHasServed (source_of (names door) kept is_plain) seen names follows stays turn door between call mid x asked
      → DoorHasServed (source_of (names between) kept is_plain) seen names follows stays turn between door_now mid call_now y more
      → DoorHasServed (source_of (names door) kept is_plain) seen names follows stays turn door door_now call call_now (followed_by x y) (asked ++ more)
  served_then kept is_plain {door = door} {mid = mid} {call_now = call_now} {x = x} {y = y} {asked = asked} {more = more} on first second = record {
    has_grown = grown_then (λ other from. (from_parts x y from).0)
        (λ other from. subst (λ n. IsFrom (source_of n kept is_plain) other y) (sym first.same_names) (from_parts x y from).1) first.has_grown second.has_grown;
    by = All-append (λ step. step ≡ source_of (names door) kept is_plain) x.steps y.steps first.by
        (subst (λ n. All (λ step. step ≡ source_of n kept is_plain) y.steps) first.same_names second.by);
    asks = AsksDoor-again asked more first.asks second.asks;
    same_names = second.same_names ∙ first.same_names;
    same_door = on first.same_door second.same_door;
    once = λ ends. omega (arith, first.once ends, second.once ends, length-append asked more);
    made = omega (arith, first.made, second.made, length-append asked more, length-append x.steps y.steps);
    lasts = λ looks messages is. first.lasts looks messages (second.lasts looks messages is);
  }

  pub served_stays : {source : Source} {turn : Turn} {door door_now : D} {call call_now : Call} {moved : Moved} {asked : List (List Entry)}
      → DoorHasServed source seen names follows stays turn door door_now call call_now moved asked → DoorStays seen names follows stays door door_now
  served_stays {asked = asked} served = record { asked = asked; asks = served.asks; same_names = served.same_names; same_door = served.same_door }

  pub stays_same : (door : D) → stays door door → DoorStays seen names follows stays door door
  stays_same door same = record { asked = []; asks = AsksDoor-none; same_names = refl; same_door = same }

  pub stays_then : {door between door_now : D} → (stays door between → stays between door_now → stays door door_now) → DoorStays seen names follows stays door between
      → DoorStays seen names follows stays between door_now → DoorStays seen names follows stays door door_now
  stays_then on first second = record {
    asked = first.asked ++ second.asked;
    asks = AsksDoor-again first.asked second.asked first.asks second.asks;
    same_names = second.same_names ∙ first.same_names;
    same_door = on first.same_door second.same_door;
  }

  pub spans_waiting : {source : Source} {door between door_now : D} {call call_now : Call} {moved : Moved} {asked : List (List Entry)} → IsTransitive follows
      → HasSpanned source seen names follows door between call call_now moved asked → DoorStays seen names follows stays between door_now
      → HasSpanned source seen names follows door door_now call call_now moved asked
  spans_waiting {door = door} {between = between} {asked = asked} on spans others = record {
    has_grown = spans.has_grown;
    in_turn = spans.in_turn;
    goes_on = subst (λ l. GoesOnFrom follows (last_of (seen door) asked) l) (sym others.asks.last) (goes_last on (last_of (seen door) asked) (seen between) others.asked spans.goes_on others.asks.in_turn);
    same_names = others.same_names ∙ spans.same_names;
  }

  pub spans_then : (kept : _) (is_plain : Bool) {turn : Turn} {door between door_now : D} {call mid call_now : Call} {x y : Moved} {asked more : List (List Entry)} → IsTransitive follows
      → HasSpanned (source_of (names door) kept is_plain) seen names follows door between call mid x asked
      → DoorHasServed (source_of (names between) kept is_plain) seen names follows stays turn between door_now mid call_now y more
      → HasSpanned (source_of (names door) kept is_plain) seen names follows door door_now call call_now (followed_by x y) (asked ++ more)
  spans_then kept is_plain {door = door} {between = between} {door_now = door_now} {mid = mid} {call_now = call_now} {y = y} {asked = asked} {more = more} on first second =
      let reached = last_of (seen door) asked in record {
        has_grown = grown_then (λ other is. is) (λ other is. inl (is ∙ ap (λ n. source_of n kept is_plain) (sym first.same_names))) first.has_grown second.has_grown;
        in_turn = InTurn-append follows (seen door) asked more first.in_turn (turns_on on reached (seen between) more first.goes_on second.asks.in_turn);
        goes_on = subst (λ entries. GoesOnFrom follows entries (seen door_now)) (sym (last_of-append (seen door) asked more))
            (reaches_on follows reached (seen between) (seen door_now) more first.goes_on second.asks.last);
        same_names = second.same_names ∙ first.same_names;
      }

-- a call that is closed takes nothing
pub taken_none : (call : Call) → not (is_open call) ≡ true → taken_by call ≡ 0
taken_none call is = by_bool (is_open call) is
  where
    by_bool : (b : Bool) → not b ≡ true → ◌≡◌ {A = ℕ} (if b then 16640 else 0) 0
    by_bool true is = absurd (true≢false (sym is))
    by_bool false is = refl

pub closed_stays : {D : Type 0} {source : Source} {seen : D → List Entry} {names : D → List (List ℕ)} {follows : List Entry → List Entry → Type 0} {stays : D → D → Type 0}
    {turn : Turn} {door door_now : D} {call call_now : Call} {moved : Moved} {asked : List (List Entry)} → not (is_open call) ≡ true
    → DoorHasServed source seen names follows stays turn door door_now call call_now moved asked → (moved.read ≡ []) × (moved.behind ≡ 0) × (not (is_open call_now) ≡ true)
closed_stays {call = call} is served = let closed = served.has_grown.closed (is_not (is_open call) is) in (closed.0, closed.1, ap not closed.2)
  where
    is_not : (b : Bool) → not b ≡ true → b ≡ false
    is_not true is = absurd (true≢false (sym is))
    is_not false is = refl

-- an open Watch takes nothing
pub watching_takes_none : (call : Call) → is_watching call ≡ true → taken_by call ≡ 0
watching_takes_none call is = taken_none call (ap not (by_stage call.stage is))
  where
    by_stage : (stage : CallStage) → watches stage ≡ true → opens stage ≡ false
    by_stage (stages.Reading intake) is = absurd (true≢false (sym is))
    by_stage (stages.Watching watch) is = refl
    by_stage (stages.Ending outcome) is = absurd (true≢false (sym is))
    by_stage stages.Starved is = absurd (true≢false (sym is))
