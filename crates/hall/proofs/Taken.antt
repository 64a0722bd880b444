-- What a change leaves of the seat that made it.
use Rattle.std.proofs.Common.{◌≡◌, ℕ, suc, ◌+◌, ◌<◌, ◌≤◌, ◌^◌, ◌==◌, Bool, true, false, if◌then◌else◌, List, [], ◌∷◌, length, sym, refl, ap, ◌∙◌, subst, arith}
use Rattle.std.specs.Prelude.{Option, Some, None, Result, Ok, Err, IsTrue, ◌↔◌, drop}
use Rattle.atomic_table.specs.Seated.{TableId}
use Rattle.desk_core.specs.declared.call.Call.{Call}
use Rattle.desk_core.specs.declared.entry.Entry.{Entry}
use Rattle.desk_core.specs.declared.refusal.Refusal.{Refusal}
use Rattle.desk_core.specs.declared.refusal.Refusal.TheVariants.{NotListed}
use Rattle.desk_core.specs.declared.reply.Reply.{Reply}
use Rattle.desk_core.specs.Changes.{Shows}
use Rattle.desk_core.specs.Desk.{State, HasAnswered}
use Rattle.desk_core.specs.Legal.{IsLegal}
use Rattle.desk_core.specs.Past.{past}
use Rattle.desk_core.specs.Mutation.{IsAnswered, Taken, NotListed as Unlisted, BadRule, Full, NoMemory, NotStored, entry_of}
use Rattle.desk_core.specs.Seats.{calls_by}
use Rattle.hall.specs.Views.{seat_view, desk_view}
use Rattle.hall.specs.Steps.{Seated, IsSeat, HasDesk, Follows, Rests, number_in, seen_in}
use Rattle.hall.specs.Seats.{SeatState, IsCarriedOut}
use Rattle.hall.proofs.Views.{older_self, own_call}

-- what answers say of the history
newest_of : (most seat : ℕ) (before after : List Entry) (call : Call) (reply : Reply) → IsAnswered most seat before after (Some call) (Ok reply) → after ≡ entry_of seat call reply ∷ before
newest_of most seat before after call reply (Taken _ _ lawful room reply_is after_is) = after_is

kept_of : (most seat : ℕ) (before after : List Entry) (call : Call) (refusal : Refusal) → IsAnswered most seat before after (Some call) (Err refusal) → after ≡ before
kept_of most seat before after call _ (BadRule _ unlawful same) = same
kept_of most seat before after call _ (Full _ lawful full same) = same
kept_of most seat before after call _ (NoMemory _ lawful room same) = same
kept_of most seat before after call _ (NotStored _ lawful room same) = same

-- a seat as contracts see it
abbrev pub seat_of : TableId → Seated → ℕ → SeatState
seat_of table me number = record { table = table; most = me.0.most; number = number; seen = seen_in me }

-- A seat with the desk in hand: `before` is the desk as it was taken out
pub record InHand (me waiting : Seated) (number made : ℕ) (before : State) : Type 0 where
  pub seat : IsSeat me number made
  pub limit : before.max_entries ≡ me.0.most
  pub has : HasDesk waiting (number_in me) me.0.most (past before.journal)
  pub follows : Follows (number_in me) (seen_in me) (past before.journal)

-- the number that a resting seat's view has
pub number_is : (me : Seated) (number made : ℕ) → IsSeat me number made → number_in me ≡ number
number_is me number made seat = ap number_in seat.rests

-- the seat may commit
pub may_commit : (me waiting : Seated) (number made : ℕ) (before after : State) → InHand me waiting number made before → after.max_entries ≡ before.max_entries
    → HasDesk waiting number after.max_entries (seen_in waiting)
may_commit me waiting number made before after hand limit =
    let is = hand.has.1 in
    let seen : seen_in waiting ≡ past before.journal = ap seen_in is in (
      hand.has.0,
      is ∙ (ap (λ (n : ℕ). (desk_view n (past before.journal) me.0.most hand.has.0 (past before.journal), (0, None) ∷ [])) (number_is me number made hand.seat)
          ∙ (ap (λ (most : ℕ). (desk_view number (past before.journal) most hand.has.0 (past before.journal), (0, None) ∷ [])) (sym (limit ∙ hand.limit))
          ∙ ap (λ (history : List Entry). (desk_view number history after.max_entries hand.has.0 history, (0, None) ∷ [])) (sym seen))),
    )

-- a seat has made no more changes than its history has entries
calls_few : (history : List Entry) (number : ℕ) → length (calls_by history number) ≤ length history
calls_few [] number = omega arith
calls_few (entry ∷ history) number = by_seat (calls_few history number) (entry.seat == number)
  where
    by_seat : length (calls_by history number) ≤ length history → (own : Bool)
        → length (if own then entry ∷ calls_by history number else calls_by history number) ≤ suc (length history)
    by_seat few true = omega (arith, few)
    by_seat few false = omega (arith, few)

-- what it counts stays far below what a number holds
pub may_count : (me waiting : Seated) (number made : ℕ) (before : State) → InHand me waiting number made before
    → (made ≤ length (seen_in waiting)) × (length (seen_in waiting) < 2 ^ 32)
may_count me waiting number made before hand =
    let seen : seen_in waiting ≡ past before.journal = ap seen_in hand.has.1 in
    let own : length (calls_by (past before.journal) (number_in me)) ≡ length (calls_by (seen_in me) (number_in me)) = ap length hand.follows.own in
    let mine : length (calls_by (seen_in me) (number_in me)) ≡ length (calls_by (seen_in me) number) = ap (λ (n : ℕ). length (calls_by (seen_in me) n)) (number_is me number made hand.seat) in (
      omega (arith, hand.seat.made_is, own, mine, calls_few (past before.journal) (number_in me), ap length seen),
      omega (arith, hand.follows.limit, ap length seen),
    )

-- a change that the desk in hand answered, seen from the seat's side
pub carried_out : (old : SeatState) (table later : TableId) (me waiting rested : Seated) (number made seat : ℕ) (before after : State) (call : Call)
    (result : Result Reply Refusal) → seat_of table me number ≡ old
    → InHand me waiting number made before → later ≡ table → HasAnswered before after number call result
    → rested ≡ (seat_view seat (past after.journal) after.max_entries, []) → IsCarriedOut old (seat_of later rested number) (Some call) result
carried_out old table later me waiting rested number made seat before after call result view_is hand same answers rests =
    let own_number = number_is me number made hand.seat in
    let seen : seen_in rested ≡ past after.journal = ap seen_in rests in
    let most : rested.0.most ≡ me.0.most = ap (λ (m : Seated). m.0.most) rests ∙ (answers.most ∙ hand.limit) in
    subst (λ (o : SeatState). IsCarriedOut o (seat_of later rested number) (Some call) result) view_is (record {
      before = past before.journal;
      begins = hand.follows.begins;
      own = subst (λ (n : ℕ). calls_by (past before.journal) n ≡ calls_by (seen_in me) n) own_number hand.follows.own;
      legal = hand.follows.legal;
      same = ap (λ (t : TableId). seat_of t rested number) same ∙ ap (λ (m : ℕ). record { table = table; most = m; number = number; seen = seen_in rested }) most;
      answer = subst (λ (m : ℕ). IsAnswered m number (past before.journal) (seen_in rested) (Some call) result) hand.limit
          (subst (λ (h : List Entry). IsAnswered before.max_entries number (past before.journal) h (Some call) result) (sym seen) answers.answer);
      unlisted = λ is. let never : Some call ≡ None = is in cc;
    })

-- a change that names nobody leaves the seat
pub not_carried_out : (seat : SeatState) (call : Option Call) → call ≡ None → IsLegal seat.seen → IsCarriedOut seat seat call (Err NotListed)
not_carried_out seat call none legal = rw none (record {
  before = seat.seen;
  begins = older_self seat.seen;
  own = refl;
  legal = legal;
  same = refl;
  answer = Unlisted refl;
  unlisted = λ is. refl;
})

-- a desk's history and limit are left as they were; its memory may be more
pub record IsLeft (before after : State) : Type 0 where
  pub limit : after.max_entries ≡ before.max_entries
  pub history : past after.journal ≡ past before.journal

-- the seat may give the desk back as it took it
pub may_leave : (me waiting : Seated) (number made : ℕ) (before after : State) → InHand me waiting number made before → IsLeft before after
    → HasDesk waiting (number_in waiting) after.max_entries (past after.journal)
may_leave me waiting number made before after hand same =
    let is = hand.has.1 in
    let numbered : number_in waiting ≡ number_in me = ap number_in is in
    let limit : after.max_entries ≡ me.0.most = same.limit ∙ hand.limit in
    let history : past after.journal ≡ past before.journal = same.history in (
      hand.has.0,
      is ∙ (ap (λ (n : ℕ). (desk_view n (past before.journal) me.0.most hand.has.0 (past before.journal), (0, None) ∷ [])) (sym numbered)
          ∙ (ap (λ (most : ℕ). (desk_view (number_in waiting) (past before.journal) most hand.has.0 (past before.journal), (0, None) ∷ [])) (sym limit)
          ∙ ap (λ (h : List Entry). (desk_view (number_in waiting) h after.max_entries hand.has.0 h, (0, None) ∷ [])) (sym history))),
    )

-- an entry of a change that was taken is the newest, and a refused one leaves the journal
pub newest : (before after : State) (seat : ℕ) (call : Call) (reply : Reply) → HasAnswered before after seat call (Ok reply) → past after.journal ≡ entry_of seat call reply ∷ past before.journal
newest before after seat call reply answers = newest_of before.max_entries seat (past before.journal) (past after.journal) call reply answers.answer

pub unchanged : (before after : State) (seat : ℕ) (call : Call) (refusal : Refusal) → HasAnswered before after seat call (Err refusal) → IsLeft before after
unchanged before after seat call refusal answers = record {
  limit = answers.most;
  history = kept_of before.max_entries seat (past before.journal) (past after.journal) call refusal answers.answer;
}

-- an entry by the number of the seat is the seat's own
pub own_entry : (entry : Entry) (seat number : ℕ) (call : Call) (reply : Reply) → entry ≡ entry_of seat call reply → seat ≡ number → entry ≡ entry_of number call reply
own_entry entry seat number call reply is numbered = is ∙ ap (λ n. entry_of n call reply) numbered

-- the history before the newest entry is that of the desk as it was taken out
pub before_newest : (rested : Seated) (seat number : ℕ) (before after : State) (call : Call) (reply : Reply) → HasAnswered before after number call (Ok reply)
    → rested ≡ (seat_view seat (past after.journal) after.max_entries, []) → drop 1 (seen_in rested) ≡ past before.journal
before_newest rested seat number before after call reply answers rests =
    ap (λ (h : List Entry). drop 1 h) (ap seen_in rests ∙ newest before after number call reply answers)

-- what the desk shows its seat has seen
pub shows_seen : (shows : Bool) (rested : Seated) (seat : ℕ) (after : State) → IsTrue shows ↔ Shows (past after.journal)
    → rested ≡ (seat_view seat (past after.journal) after.max_entries, []) → IsTrue shows ↔ Shows (seen_in rested)
shows_seen shows rested seat after shown rests = subst (λ (h : List Entry). IsTrue shows ↔ Shows h) (sym (ap seen_in rests)) shown

-- a seat that made a change counts it
pub seat_taken : (me waiting rested : Seated) (number made counted seat : ℕ) (before after : State) (call : Call) (reply : Reply) → InHand me waiting number made before
    → HasAnswered before after number call (Ok reply) → seat ≡ number → rested ≡ (seat_view seat (past after.journal) after.max_entries, []) → counted ≡ made + 1
    → IsLegal (past after.journal) → IsSeat rested number counted
seat_taken me waiting rested number made counted seat before after call reply hand answers seat_is rests counts legal =
    let own : calls_by (past before.journal) number ≡ calls_by (seen_in me) number =
    subst (λ (n : ℕ). calls_by (past before.journal) n ≡ calls_by (seen_in me) n) (number_is me number made hand.seat) hand.follows.own in
    let grown : calls_by (past after.journal) number ≡ entry_of number call reply ∷ calls_by (past before.journal) number =
    ap (λ (h : List Entry). calls_by h number) (newest before after number call reply answers) ∙ own_call (entry_of number call reply) (past before.journal) number refl in
    let made_is : counted ≡ length (calls_by (past after.journal) number) = omega (arith, counts, hand.seat.made_is, ap length own, ap length grown) in
    rw (rests, seat_is) (record { rests = refl; made_is = made_is; legal = legal })

-- one whose change was refused counts none
pub seat_kept : (me waiting rested : Seated) (number made : ℕ) (before after : State) (call : Call) (refusal : Refusal) → InHand me waiting number made before
    → HasAnswered before after number call (Err refusal) → rested ≡ (seat_view (number_in waiting) (past after.journal) after.max_entries, []) → IsSeat rested number made
seat_kept me waiting rested number made before after call refusal hand answers rests =
    let same : past after.journal ≡ past before.journal = (unchanged before after number call refusal answers).history in
    let numbered : number_in waiting ≡ number = ap number_in hand.has.1 ∙ number_is me number made hand.seat in
    let own : calls_by (past before.journal) number ≡ calls_by (seen_in me) number =
    subst (λ (n : ℕ). calls_by (past before.journal) n ≡ calls_by (seen_in me) n) (number_is me number made hand.seat) hand.follows.own in
    rw (rests, numbered, same) (record { rests = refl; made_is = hand.seat.made_is ∙ sym (ap length own); legal = hand.follows.legal })

-- a seat at rest may enter
pub has_rest : (me : Seated) (number made : ℕ) → IsSeat me number made → Rests me
has_rest me number made seat = seat.rests ∙ ap (λ (n : ℕ). (seat_view n (seen_in me) me.0.most, [])) (sym (number_is me number made seat))
