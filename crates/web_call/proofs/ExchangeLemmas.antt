-- What an exchange has read, written and asked so far.
use Rattle.std.proofs.Common.{◌≡◌, ◌≤◌, ◌<◌, ◌+◌, ◌||◌, ◌==◌, ℕ, ◌⊎◌, inl, inr, Bool, Option, true, false, Some, None, List, [], ◌∷◌, ◌++◌, length, take, drop, refl}
use Rattle.std.proofs.Common.{ap, sym, ◌∙◌, subst, append_assoc, append-nil, length-append, arith}
use Rattle.std.proofs.KnownBytes.{Appends-trans, Appends-nil}
use Rattle.std.proofs.lemmas.List.{take-append-le, take-take, length-take-le}
use Rattle.std.specs.Io.KnownBytes.{Appends, Consumes}
use Rattle.desk_core.specs.declared.entry.Entry.{Entry}
use Rattle.web_call.specs.declared.call.Call.{Call}
use Rattle.web_call.specs.declared.call.CallStage.{CallStage}
use Rattle.web_call.specs.declared.call.CallStage.TheVariants.{Reading, Watching, Ending, Starved}
use Rattle.web_call.specs.declared.outcome.Outcome.{Outcome}
use Rattle.web_call.specs.declared.outcome.Outcome.TheVariants.{Http, Status, Watched, Behind, Plain}
use Rattle.web_call.specs.declared.outgoing.Outgoing.{Outgoing}
use Rattle.web_call.specs.Answer.{Source}
use Rattle.web_call.specs.Exchange.{GivesLooks, HasEnded, Meets, Rings}
use Rattle.web_call.specs.Past.{Past, Stands, StandsAt, Carries, CarriesFor, begun, with_asked, with_received, with_sent}
use Rattle.web_call.specs.Stages.{ending_of, ends_watch, ends_with, is_watching, watches}
use Rattle.web_call.specs.Walk.{AsksDoor}
use Rattle.web_call.proofs.WalkLemmas.{AsksDoor-again}

-- bytes that were read into the front of a buffer, and given whole
pub given_all : (xs ys : List ℕ) (count wanted n : ℕ) → count ≤ length xs → length xs ≤ wanted
    → (length (take count (xs ++ ys)) ≤ wanted → n ≡ length (take count (xs ++ ys))) → take n (take count (xs ++ ys)) ≡ take count xs
given_all xs ys count wanted n within room all =
    let same = take-append-le count xs ys within in
    let len = ap length same ∙ length-take-le count xs within in
    let is = all (omega (arith, len)) ∙ len in
    ap (λ l. take n l) same ∙ ap (λ k. take k (take count xs)) is ∙ take-take count count xs (omega arith)

-- a call with some room leaves a tap no more idle
pub still_idle : (idle : Bool) (n : ℕ) → 0 < n → (idle || (n == 0)) ≡ idle
still_idle true n some = refl
still_idle false n some = grind (arith, some)

-- what a past grows by, twice
pub received_more : (old mid new : Call) (a b : List ℕ) → Carries old mid (with_received a) → Carries mid new (with_received b) → Carries old new (with_received (a ++ b))
received_more old mid new a b p q source past h = subst (λ l. Stands source (record past { received = l }) new) (append_assoc past.received a b) (q source _ (p source past h))

pub sent_more : (old mid new : Call) (a b : List ℕ) → Carries old mid (with_sent a) → Carries mid new (with_sent b) → Carries old new (with_sent (a ++ b))
sent_more old mid new a b p q source past h = subst (λ l. Stands source (record past { sent = l }) new) (append_assoc past.sent a b) (q source _ (p source past h))

pub sent_none : (call : Call) → Carries call call (with_sent [])
sent_none call source past h = subst (λ l. Stands source (record past { sent = l }) call) (sym (append-nil past.sent)) h

pub asked_none : (source : Source) (old new : Call) → Carries old new (λ past. past) → CarriesFor source old new (with_asked [])
asked_none source old new carries past h = subst (λ l. Stands source (record past { asked = l }) new) (sym (append-nil past.asked)) (carries source past h)

-- what an exchange has done so far: a past with which the call stands, and that is what was read, written and asked
pub record SoFar {D B : Type 0} (source : Source) (seen : D → List Entry) (follows : List Entry → List Entry → Type 0) (given : B → ℕ)
    (is_over : B → Bool) (looks : ℕ) (door door_now : D) (bell bell_now : B) (input input_now output output_now : Option (List ℕ)) (call : Call) (had : ℕ) : Type 0 where
  pub past : Past
  pub stands : Stands source past call
  pub has_read : Consumes input input_now past.received
  pub wrote : Appends output output_now past.sent
  pub meets : Meets seen follows given is_over looks door door_now bell bell_now past.asked (ending_of call)
  pub has_looked : is_watching call ≡ true → had ≡ length (drop 1 past.asked)

-- a call that watches has no ending yet, and has asked
no_ending : (stage : CallStage) → watches stage ≡ true → ends_with stage ≡ None
no_ending (Reading intake) is = refl
no_ending (Watching watch) is = refl
no_ending (Ending outcome) is = absurd (grind arith)
no_ending Starved is = refl

has_asked : (source : Source) (past : Past) (stage : CallStage) (outgoing : Outgoing) → watches stage ≡ true → StandsAt source past stage outgoing
    → 1 ≤ length past.asked
has_asked source past (Reading intake) outgoing is h = absurd (grind arith)
has_asked source past (Watching watch) outgoing is h = omega (arith, ap length h.sends.asked_is)
has_asked source past (Ending outcome) outgoing is h = absurd (grind arith)
has_asked source past Starved outgoing is h = absurd (grind arith)

-- the steps of a watch that asks more
steps_more : (asked more : List (List Entry)) → 1 ≤ length asked → length (drop 1 (asked ++ more)) ≡ length (drop 1 asked) + length more
steps_more [] more some = absurd (omega (arith, some))
steps_more (first ∷ later) more some = length-append later more

few_steps : (asked : List (List Entry)) → length asked ≤ 1 → length (drop 1 asked) ≡ 0
few_steps [] few = refl
few_steps (first ∷ later) few = omega (arith, few)

-- a bell that was not asked
unrung : {B : Type 0} (given : B → ℕ) (is_over : B → Bool) (looks : ℕ) (bell : B) (steps : ℕ) (ending : Option Outcome) → steps ≡ 0 → ends_watch ending ≡ false
    → Rings given is_over looks bell bell steps ending
unrung given is_over looks bell steps None none is = record { each = omega (arith, none); most = omega (arith, none) }
unrung given is_over looks bell steps (Some (Http http)) none is = refl
unrung given is_over looks bell steps (Some (Status code)) none is = refl
unrung given is_over looks bell steps (Some Plain) none is = refl
unrung given is_over looks bell steps (Some (Watched messages)) none is = absurd (grind arith)
unrung given is_over looks bell steps (Some (Behind messages)) none is = absurd (grind arith)

module _ {D B : Type 0} {source : Source} {seen : D → List Entry} {follows : List Entry → List Entry → Type 0} {given : B → ℕ}
    {is_over : B → Bool} {looks : ℕ} {door : D} {bell : B} {input input_now output : Option (List ℕ)} where
  -- a request was read and answered
  pub so_replied : {door_now : D} (first read call : Call) (bytes : List ℕ) (asked : List (List Entry)) → Stands source begun first
      → Consumes input input_now bytes → Carries first read (with_received bytes) → length asked ≤ 1 → AsksDoor seen follows door door_now asked
      → CarriesFor source read call (with_asked asked) → ends_watch (ending_of call) ≡ false
      → SoFar source seen follows given is_over looks door door_now bell bell input input_now output output call 0
  so_replied first read call bytes asked begins has_read carries few asks more goes = record {
    past = with_asked asked (with_received bytes begun);
    stands = more (with_received bytes begun) (carries source begun begins);
    has_read = has_read;
    wrote = Appends-nil output;
    meets = record { asks = asks; rings = unrung given is_over looks bell (length (drop 1 asked)) (ending_of call) (few_steps asked few) goes };
    has_looked = λ _. sym (few_steps asked few);
  }

  -- bytes were sent
  pub so_sent : {door_now : D} {bell_now : B} {output_now after : Option (List ℕ)} {call new : Call} {had : ℕ} (bytes : List ℕ)
      → SoFar source seen follows given is_over looks door door_now bell bell_now input input_now output output_now call had
      → Appends output_now after bytes → Carries call new (with_sent bytes) → is_watching new ≡ is_watching call → ending_of new ≡ ending_of call
      → SoFar source seen follows given is_over looks door door_now bell bell_now input input_now output after new had
  so_sent {bell_now = bell_now} {call = call} bytes s wrote carries watching ending = record {
    past = with_sent bytes s.past;
    stands = carries source s.past s.stands;
    has_read = s.has_read;
    wrote = Appends-trans output _ _ s.past.sent bytes s.wrote wrote;
    meets = record {
      asks = s.meets.asks;
      rings = subst (λ e. Rings given is_over looks bell bell_now (length (drop 1 s.past.asked)) e) (sym ending) s.meets.rings;
    };
    has_looked = λ is. s.has_looked (sym watching ∙ is);
  }

  -- a watch took a step, or was ended
  pub so_stepped : {door_now door_next : D} {bell_now bell_next : B} {output_now : Option (List ℕ)} {call new : Call} {had now : ℕ} (more : List (List Entry))
      → SoFar source seen follows given is_over looks door door_now bell bell_now input input_now output output_now call had
      → is_watching call ≡ true → AsksDoor seen follows door_now door_next more → CarriesFor source call new (with_asked more)
      → now ≡ had + length more → given bell_next ≡ given bell_now + length more → now ≤ looks
      → (is_watching new ≡ false → (messages : ℕ)
      × (((ending_of new ≡ Some (Watched messages)) × HasEnded now looks (is_over bell_next)) ⊎ (ending_of new ≡ Some (Behind messages))))
      → SoFar source seen follows given is_over looks door door_next bell bell_next input input_now output output_now new now
  so_stepped {bell_now = bell_now} {bell_next = bell_next} {call = call} {new = new} {had = had} {now = now} more s is asks carries turns rung most ends =
      let before : GivesLooks given looks bell bell_now (length (drop 1 s.past.asked)) =
      subst (λ ending. Rings given is_over looks bell bell_now (length (drop 1 s.past.asked)) ending) (no_ending call.stage is) s.meets.rings in
      let steps = steps_more s.past.asked more (has_asked source s.past call.stage call.outgoing is s.stands) in
      let looked = s.has_looked is in
      let all : GivesLooks given looks bell bell_next (length (drop 1 (s.past.asked ++ more))) =
      record { each = omega (arith, before.each, rung, steps); most = omega (arith, steps, looked, turns, most) } in record {
        past = with_asked more s.past;
        stands = carries s.past s.stands;
        has_read = s.has_read;
        wrote = s.wrote;
        meets = record { asks = AsksDoor-again s.past.asked more s.meets.asks asks; rings = rings_on (is_watching new) refl all (omega (arith, turns, looked, steps)) };
        has_looked = λ _. omega (arith, turns, looked, steps);
      }
    where
      rings_on : (w : Bool) → is_watching new ≡ w → GivesLooks given looks bell bell_next (length (drop 1 (s.past.asked ++ more)))
          → now ≡ length (drop 1 (s.past.asked ++ more)) → Rings given is_over looks bell bell_next (length (drop 1 (s.past.asked ++ more))) (ending_of new)
      rings_on true w all as_many = subst (λ ending. Rings given is_over looks bell bell_next (length (drop 1 (s.past.asked ++ more))) ending) (sym (no_ending new.stage w)) all
      rings_on false w all as_many = elim (ends w).1 [
        | inl over ↦ subst (λ ending. Rings given is_over looks bell bell_next (length (drop 1 (s.past.asked ++ more))) ending) (sym over.0)
            (all, subst (λ n. HasEnded n looks (is_over bell_next)) as_many over.1)
        | inr behind ↦ subst (λ ending. Rings given is_over looks bell bell_next (length (drop 1 (s.past.asked ++ more))) ending) (sym behind) all
      ]
