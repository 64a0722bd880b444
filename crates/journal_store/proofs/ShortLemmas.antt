-- The short history of a digest, while it is made.
use Rattle.std.proofs.Common.{◌≡◌, ◌≢◌, ℕ, zero, suc, ◌+◌, ◌<◌, ◌≤◌, ◌==◌, ◌&&◌, nat_le, if◌then◌else◌, Bool, true, false, Option, None, Some, unwrap_or, is_some}
use Rattle.std.proofs.Common.{List, [], ◌∷◌, ◌++◌, map, length, replicate, slice_index_or, All, refl, sym, ap, subst, ◌∙◌, inl, inr, ◌⊎◌, arith, append_assoc, length-append, add-one}
use Rattle.std.specs.List.{list_all}
use Rattle.std.specs.Option.{option_map, option_or}
use Rattle.std.proofs.lemmas.Bool.{cases_lt, eqb-true, eq-eqb, false≢true, lt-leb}
use Rattle.std.proofs.lemmas.List.{length-map, length-replicate, map-append}
use Rattle.std.proofs.lemmas.List.Elements.{All-cons, All-nil}
use Rattle.std.proofs.lemmas.List.Folds.{list_all-append}
use Rattle.probe_core.specs.declared.event.Event.{Event}
use Rattle.probe_core.specs.declared.event.Event.TheVariants.{Pass, Fail, Up, Down}
use Rattle.probe_core.specs.declared.rule.Rule.{Rule}
use Rattle.probe_core.specs.declared.rule.Rule.TheVariants.{Threshold, Manual}
use Rattle.probe_core.specs.declared.start.Start.{Start}
use Rattle.probe_core.specs.Rule.{HasCounts, fits, is_count, is_in_range}
use Rattle.probe_core.specs.Events.{all_fit, memory_after}
use Rattle.probe_core.proofs.EventLemmas.{range_counts}
use Rattle.desk_core.specs.declared.call.Call.{Call}
use Rattle.desk_core.specs.declared.call.Call.TheVariants.{Register, Observe}
use Rattle.desk_core.specs.declared.call.Finding.TheVariants as findings
use Rattle.desk_core.specs.declared.entry.Entry.{Entry}
use Rattle.desk_core.specs.declared.reply.Reply.TheVariants.{Done, Replaced, Ignored, WrongKind}
use Rattle.desk_core.specs.Past.{last_said}
use Rattle.desk_core.specs.Present.{rule_at, says_rule, IsLawful}
use Rattle.desk_core.specs.Shut.{is_shut}
use Rattle.desk_core.specs.Heard.{heard, with_event}
use Rattle.desk_core.specs.Legal.{IsLegal, IsLawfulCall}
use Rattle.desk_core.specs.Reply.{reply_to, reply_to_event}
use Rattle.desk_core.specs.Desk.{probe_at}
use Rattle.desk_core.proofs.HistoryLemmas.{rule_of_probe}
use Rattle.journal_store.specs.Next.{probe_next}
use Rattle.journal_store.specs.Short.{AllCanStand, AreFindings, CanStand, IsBrought, IsMade, IsMemory, bringing, done, naming}
use Rattle.journal_store.proofs.AlikeLemmas.{heard_fits}
use Rattle.journal_store.proofs.FewestLemmas.{heard_named, naming_next, probe_parts}
use Rattle.journal_store.proofs.ProbeLemmas.{probe_step}

both_true : (a b : Bool) → (a && b) ≡ true → (a ≡ true) × (b ≡ true)
both_true true b is = (refl, is)
both_true false b is = absurd (false≢true is)

-- what a slot's probe counts to is in range, and so is at least one
pub stands_in_range : (slot : ℕ) (probe : Rule × ℕ) → CanStand slot probe → is_in_range probe.0 ≡ true
stands_in_range slot probe stands = (both_true (is_in_range probe.0) _ stands.lawful).0

pub stands_counts : (slot : ℕ) (probe : Rule × ℕ) → CanStand slot probe → HasCounts probe.0
stands_counts slot probe stands = range_counts probe.0 (stands_in_range slot probe stands)

count_most : (number : ℕ) → is_count number ≡ true → number ≤ 1000
count_most number counts =
    elim (cases_lt 1000 number) as (λ _. number ≤ 1000) [
      | inl above ↦ absurd (false≢true (sym (lt-leb number 1000 above) ∙ (both_true (nat_le 1 number) (nat_le number 1000) counts).1))
      | inr within ↦ within
    ]

map-repeat : {X Y : Type 0} (f : X → Y) (n : ℕ) (x : X) → map f (replicate n x) ≡ replicate n (f x)
map-repeat f zero x = refl
map-repeat f (suc n) x = ap (λ ys. f x ∷ ys) (map-repeat f n x)

all_repeat : {X : Type 0} (test : X → Bool) (n : ℕ) (x : X) → test x ≡ true → list_all test (replicate n x) ≡ true
all_repeat test zero x is = refl
all_repeat test (suc n) x is = ap (λ b. b && list_all test (replicate n x)) is ∙ all_repeat test n x is

-- one more of the same
pub repeat_more : (n : ℕ) (entry : Entry) (older until newer : List Entry) → until ≡ replicate n entry ++ older → newer ≡ entry ∷ until → newer ≡ replicate (n + 1) entry ++ older
repeat_more n entry older until newer is more = more ∙ ap (λ es. entry ∷ es) is ∙ rw add-one refl

-- failures, and then passes
pub found_brought : (slot fall rise memory : ℕ) (start : Start) (fails passes : ℕ) (older middle newer : List Entry) → CanStand slot (Threshold fall rise start, memory)
    → AreFindings fall rise memory start fails passes
    → middle ≡ replicate fails (done (Observe slot findings.Fail)) ++ older → newer ≡ replicate passes (done (Observe slot findings.Pass)) ++ middle
    → IsBrought slot (Threshold fall rise start, memory) older newer
found_brought slot fall rise memory start fails passes older middle newer stands found failed passed =
    let rule = Threshold fall rise start in
    let bring : Event → Entry = λ event. done (bringing slot event) in
    let counts = both_true (is_count fall) (is_count rise) (stands_in_range slot (Threshold fall rise start, memory) stands) in
    record {
      events = replicate passes Pass ++ replicate fails Fail;
      few = omega (
        arith,
        found.few,
        count_most fall counts.0,
        count_most rise counts.1,
        length-append (replicate passes Pass) (replicate fails Fail),
        length-replicate passes Pass,
        length-replicate fails Fail,
      );
      fit = list_all-append (fits rule) (replicate passes Pass) (replicate fails Fail)
          ∙ ap (λ b. b && list_all (fits rule) (replicate fails Fail)) (all_repeat (fits rule) passes Pass refl)
          ∙ all_repeat (fits rule) fails Fail refl;
      memory = found.gives;
      fewest = λ other fit gives. omega (
        arith,
        found.fewest other fit gives,
        length-append (replicate passes Pass) (replicate fails Fail),
        length-replicate passes Pass,
        length-replicate fails Fail,
      );
      entries = passed
          ∙ ap (λ es. replicate passes (done (Observe slot findings.Pass)) ++ es) failed
          ∙ sym (append_assoc (replicate passes (done (Observe slot findings.Pass))) (replicate fails (done (Observe slot findings.Fail))) older)
          ∙ ap (λ es. es ++ older) (sym (map-append bring (replicate passes Pass) (replicate fails Fail)
          ∙ ap (λ es. es ++ map bring (replicate fails Fail)) (map-repeat bring passes Pass)
          ∙ ap (λ es. replicate passes (bring Pass) ++ es) (map-repeat bring fails Fail)));
    }

-- the same of a probe that was read part by part
pub counted_brought : (slot fall rise memory : ℕ) (start : Start) (probe : Rule × ℕ) (fails passes : ℕ) (older middle newer : List Entry) → CanStand slot probe
    → probe.0 ≡ Threshold fall rise start → memory ≡ probe.1
    → (1 ≤ fall → 1 ≤ rise → IsMemory (Threshold fall rise start) memory → AreFindings fall rise memory start fails passes)
    → middle ≡ replicate fails (done (Observe slot findings.Fail)) ++ older → newer ≡ replicate passes (done (Observe slot findings.Pass)) ++ middle
    → IsBrought slot probe older newer
counted_brought slot fall rise memory start probe fails passes older middle newer stands ruled known found failed passed =
    let same : probe ≡ (Threshold fall rise start, memory) = ap (λ r. (r, probe.1)) ruled ∙ ap (λ m. (Threshold fall rise start, m)) (sym known) in
    let Stands : Rule × ℕ → Type 0 = λ p. CanStand slot p in
    let Brought : Rule × ℕ → Type 0 = λ p. IsBrought slot p older newer in
    let there = subst Stands same stands in
    let counts = stands_counts slot (Threshold fall rise start, memory) there in
    subst Brought (sym same)
    (found_brought slot fall rise memory start fails passes older middle newer there (found counts.0 counts.1 there.memory) failed passed)

-- a manual slot is set down
pub down_brought : (slot : ℕ) (probe : Rule × ℕ) (older newer : List Entry) → probe.0 ≡ Manual → probe.1 ≡ 1 → newer ≡ done (bringing slot Down) ∷ older
    → IsBrought slot probe older newer
down_brought slot probe older newer ruled is more =
    let same : probe ≡ (Manual, 1) = ap (λ r. (r, probe.1)) ruled ∙ ap (λ m. (Manual, m)) is in
    let Brought : Rule × ℕ → Type 0 = λ p. IsBrought slot p older newer in
    subst Brought (sym same) (record { events = Down ∷ []; few = omega arith; fit = refl; memory = refl; fewest = heard_some; entries = more })
  where
    heard_some : (other : List Event) → all_fit Manual other ≡ true → memory_after Manual other ≡ 1 → length (Down ∷ []) ≤ length other
    heard_some [] fit gives = absurd (omega (arith, gives))
    heard_some (event ∷ other) fit gives = omega arith

-- one more entry of seat 0
pub seat_first : (call : Call) (entries : List Entry) → All (λ entry. entry.seat ≡ 0) entries → All (λ entry. entry.seat ≡ 0) (done call ∷ entries)
seat_first call entries are = All-cons (λ (entry : Entry). entry.seat ≡ 0) (done call) entries refl are

-- what is brought is of seat 0
seats_brought : (slot : ℕ) (events : List Event) (older : List Entry) → All (λ entry. entry.seat ≡ 0) older
    → All (λ entry. entry.seat ≡ 0) (map (λ event. done (bringing slot event)) events ++ older)
seats_brought slot [] older are = are
seats_brought slot (event ∷ events) older are = seat_first (bringing slot event) (map (λ event. done (bringing slot event)) events ++ older) (seats_brought slot events older are)

-- a slot of this rule has heard these events, in a legal history that is not shut down; the other slots are as an older history has them
record HasHeard (slot : ℕ) (rule : Rule) (events : List Event) (older history : List Entry) : Type 0 where
  legal : IsLegal history
  running : is_shut history ≡ false
  ruled : rule_at history slot ≡ Some rule
  hears : heard history slot rule ≡ events
  others : (i : ℕ) → i ≢ slot → probe_at history i ≡ probe_at older i

-- an entry that brings an event to a slot
record Brings (slot : ℕ) (rule : Rule) (event : Event) (entry : Entry) (history : List Entry) : Type 0 where
  reply : entry.reply ≡ Done
  lawful : IsLawfulCall entry.call
  answer : reply_to history entry.call ≡ reply_to_event (rule_at history slot) (is_shut history) event
  shut : is_shut (entry ∷ history) ≡ is_shut history
  ruled : rule_at (entry ∷ history) slot ≡ rule_at history slot
  hears : heard (entry ∷ history) slot rule ≡ with_event rule (is_shut history) (if slot == slot then Some event else None) (heard history slot rule)
  next : (i : ℕ) (probe : Option (Rule × ℕ)) → (slot == i) ≡ false → probe_next (is_shut history) i entry.call probe ≡ probe

brings : (slot : ℕ) (rule : Rule) (event : Event) (history : List Entry) → Brings slot rule event (done (bringing slot event)) history
brings slot rule Pass history = record { reply = refl; lawful = tt; answer = refl; shut = refl; ruled = refl; hears = refl; next = λ i probe isnt. rw isnt refl }
brings slot rule Fail history = record { reply = refl; lawful = tt; answer = refl; shut = refl; ruled = refl; hears = refl; next = λ i probe isnt. rw isnt refl }
brings slot rule Up history = record { reply = refl; lawful = tt; answer = refl; shut = refl; ruled = refl; hears = refl; next = λ i probe isnt. rw isnt refl }
brings slot rule Down history = record { reply = refl; lawful = tt; answer = refl; shut = refl; ruled = refl; hears = refl; next = λ i probe isnt. rw isnt refl }

differs : (slot i : ℕ) → i ≢ slot → (slot == i) ≡ false
differs slot i other = by_test (slot == i) refl
  where
    by_test : (b : Bool) → (slot == i) ≡ b → b ≡ false
    by_test true is = absurd (other (sym (eqb-true slot i is)))
    by_test false is = refl

heard_one : (slot : ℕ) (rule : Rule) (event : Event) (events : List Event) (older history : List Entry) → HasHeard slot rule events older history → fits rule event ≡ true
    → HasHeard slot rule (event ∷ events) older (done (bringing slot event) ∷ history)
heard_one slot rule event events older history has fit =
    let entry : Entry = done (bringing slot event) in
    let one = brings slot rule event history in
    record {
      legal = (
        has.legal,
        one.reply
            ∙ sym (one.answer
            ∙ ap (λ o. reply_to_event o (is_shut history) event) has.ruled
            ∙ ap (λ b. if fits rule event then (if b then Ignored else Done) else WrongKind) has.running
            ∙ ap (λ b. if b then Done else WrongKind) fit),
        one.lawful,
      );
      running = one.shut ∙ has.running;
      ruled = one.ruled ∙ has.ruled;
      hears = one.hears
          ∙ ap (λ b. with_event rule (is_shut history) (if b then Some event else None) (heard history slot rule)) (eq-eqb slot slot refl)
          ∙ ap (λ b. with_event rule b (Some event) (heard history slot rule)) has.running
          ∙ ap (λ b. if b then event ∷ heard history slot rule else heard history slot rule) fit
          ∙ ap (λ es. event ∷ es) has.hears;
      others = λ i other. probe_step entry history i has.legal ∙ one.next i (probe_at history i) (differs slot i other) ∙ has.others i other;
    }

heard_all : (slot : ℕ) (rule : Rule) (events : List Event) (older history : List Entry) → HasHeard slot rule [] older history → all_fit rule events ≡ true
    → HasHeard slot rule events older (map (λ event. done (bringing slot event)) events ++ history)
heard_all slot rule [] older history has fit = has
heard_all slot rule (event ∷ events) older history has fit =
    let both = both_true (fits rule event) (all_fit rule events) fit in
    heard_one slot rule event events older (map (λ event. done (bringing slot event)) events ++ history) (heard_all slot rule events older history has both.1) both.0

-- a slot that had no probe is registered
registered : (slot : ℕ) (rule : Rule) (older : List Entry) → IsLegal older → is_shut older ≡ false → probe_at older slot ≡ None → IsLawful slot rule
    → HasHeard slot rule [] older (done (Register slot rule) ∷ older)
registered slot rule older legal running none lawful =
    let absent : rule_at older slot ≡ None = sym (rule_of_probe older slot) ∙ ap (option_map (λ (state : Rule × ℕ). state.0)) none in
    let same = eq-eqb slot slot refl in
    record {
      legal = (legal, ap (λ o. if is_some o then Replaced else Done) (sym absent), lawful);
      running = running;
      ruled = ap (λ b. unwrap_or (option_or (if b then Some (Some rule) else None) (last_said (says_rule slot) older)) None) same;
      hears = ap (λ b. if b then [] else heard older slot rule) same;
      others = λ i other. probe_step (done (Register slot rule)) older i legal ∙ rw (differs slot i other) refl;
    }

-- the probe of a slot that heard these events
probe_heard : (slot : ℕ) (rule : Rule) (events : List Event) (older history : List Entry) → HasHeard slot rule events older history → probe_at history slot ≡ Some (rule, memory_after rule events)
probe_heard slot rule events older history has =
    ap (option_map (λ r. (r, memory_after r (heard history slot r)))) has.ruled ∙ ap (λ es. Some (rule, memory_after rule es)) has.hears

-- one more slot that has a probe
pub made_more : (probes : List (Option (Rule × ℕ))) (slot : ℕ) (probe : Rule × ℕ) (older newer : List Entry) → IsMade probes slot older → slice_index_or probes slot None ≡ Some probe
    → CanStand slot probe → IsBrought slot probe (done (Register slot probe.0) ∷ older) newer → IsMade probes (slot + 1) newer
made_more probes slot probe older newer made there stands brought =
    let P : List Entry → Type 0 = λ entries. IsMade probes (slot + 1) entries in
    subst P (sym brought.entries) (record {
      legal = has.legal;
      running = has.running;
      made = λ i below. by_place i below (cases_lt i slot);
      rest = λ i past. has.others i (λ same. omega (arith, same, past)) ∙ made.rest i (omega (arith, past));
      seats = seats_brought slot brought.events (done (Register slot probe.0) ∷ older) (seat_first (Register slot probe.0) older made.seats);
      few = omega (arith, brought.few, made.few, length-append (map bring brought.events) (done (Register slot probe.0) ∷ older), length-map brought.events bring);
      fewest = λ other same. omega (
        arith,
        length-append (map bring brought.events) (done (Register slot probe.0) ∷ older),
        length-map brought.events bring,
        naming_next slot other,
        made.fewest other (λ i before. same i (omega (arith, before))),
        named_here other (same slot (omega arith) ∙ there),
      );
    })
  where
    named_here : (other : List Entry) → probe_at other slot ≡ Some probe → 1 + length brought.events ≤ naming slot other
    named_here other is =
        let parts = probe_parts other slot probe is in
        omega (arith, brought.fewest (heard other slot probe.0) (heard_fits other slot probe.0) parts.1, heard_named other slot probe.0 parts.0)

    bring : Event → Entry
    bring event = done (bringing slot event)

    has : HasHeard slot probe.0 brought.events older (map (λ event. done (bringing slot event)) brought.events ++ (done (Register slot probe.0) ∷ older))
    has =
        heard_all slot probe.0 brought.events older (done (Register slot probe.0) ∷ older)
        (registered slot probe.0 older made.legal made.running (made.rest slot (omega arith)) stands.lawful) brought.fit

    by_place : (i : ℕ) → i < slot + 1 → (i < slot) ⊎ (slot ≤ i)
        → probe_at (map (λ event. done (bringing slot event)) brought.events ++ (done (Register slot probe.0) ∷ older)) i ≡ slice_index_or probes i None
    by_place i below (inl before) = has.others i (λ same. omega (arith, same, before)) ∙ made.made i before
    by_place i below (inr past) =
        let same : slot ≡ i = omega (arith, past, below) in
        let P : ℕ → Type 0 = λ k. probe_at (map (λ event. done (bringing slot event)) brought.events ++ (done (Register slot probe.0) ∷ older)) k ≡ slice_index_or probes k None in
        subst P same
        (probe_heard slot probe.0 brought.events older (map (λ event. done (bringing slot event)) brought.events ++ (done (Register slot probe.0) ∷ older)) has
        ∙ ap (λ m. Some (probe.0, m)) brought.memory ∙ sym there)

-- one more slot that has none
pub made_none : (probes : List (Option (Rule × ℕ))) (slot : ℕ) (history : List Entry) → IsMade probes slot history → slice_index_or probes slot None ≡ None → IsMade probes (slot + 1) history
made_none probes slot history made none = record {
  legal = made.legal;
  running = made.running;
  made = λ i below. by_place i below (cases_lt i slot);
  rest = λ i past. made.rest i (omega (arith, past));
  seats = made.seats;
  few = omega (arith, made.few);
  fewest = λ other same. omega (arith, naming_next slot other, made.fewest other (λ i before. same i (omega (arith, before))));
}
  where
    by_place : (i : ℕ) → i < slot + 1 → (i < slot) ⊎ (slot ≤ i) → probe_at history i ≡ slice_index_or probes i None
    by_place i below (inl before) = made.made i before
    by_place i below (inr past) =
        let same : slot ≡ i = omega (arith, past, below) in
        let P : ℕ → Type 0 = λ k. probe_at history k ≡ slice_index_or probes k None in
        subst P same (made.rest slot (omega arith) ∙ sym none)

-- before the first slot
pub made_nothing : (probes : List (Option (Rule × ℕ))) → IsMade probes 0 []
made_nothing probes = record { legal = tt; running = refl; made = λ i below. absurd (omega (arith, below)); rest = λ i past. refl; seats = All-nil (λ (entry : Entry). entry.seat ≡ 0); few = omega arith; fewest = λ other same. omega arith }

-- what stands at a place of a list, whatever would be read past its end
read_at : {X : Type 0} (xs : List X) (i : ℕ) (d e : X) → i < length xs → slice_index_or xs i d ≡ slice_index_or xs i e
read_at [] i d e below = absurd (omega (arith, below))
read_at (x ∷ xs) zero d e below = refl
read_at (x ∷ xs) (suc i) d e below = read_at xs i d e (omega (arith, below))

-- one more slot, which was read
pub made_next : (probes : List (Option (Rule × ℕ))) (number slot : ℕ) (read : Option (Rule × ℕ)) (probe : Rule × ℕ) (older newer : List Entry)
    → IsMade probes number older → AllCanStand probes → length probes ≡ 16 → number < 16 → slot ≡ number → slice_index_or probes number read ≡ Some probe
    → (CanStand slot probe → IsBrought slot probe (done (Register slot probe.0) ∷ older) newer) → IsMade probes (number + 1) newer
made_next probes number slot read probe older newer made stands long below same is brought =
    let there : slice_index_or probes number None ≡ Some probe = read_at probes number None read (omega (arith, long, below)) ∙ is in
    let can = stands number probe there in
    let P : ℕ → Type 0 = λ s. CanStand s probe → IsBrought s probe (done (Register s probe.0) ∷ older) newer in
    made_more probes number probe older newer made there can (subst P same brought can)

pub made_past : (probes : List (Option (Rule × ℕ))) (number : ℕ) (read : Option (Rule × ℕ)) (history : List Entry)
    → IsMade probes number history → length probes ≡ 16 → number < 16 → slice_index_or probes number read ≡ None → IsMade probes (number + 1) history
made_past probes number read history made long below is = made_none probes number history made (read_at probes number None read (omega (arith, long, below)) ∙ is)
