-- What a seat is left with that gave the desk back as it took it.
use Rattle.std.proofs.Common.{◌≡◌, ℕ, List, [], length, sym, refl, ap, ◌∙◌, subst}
use Rattle.atomic_table.specs.Seated.{TableId}
use Rattle.desk_core.specs.declared.entry.Entry.{Entry}
use Rattle.desk_core.specs.Desk.{State}
use Rattle.desk_core.specs.Legal.{IsLegal}
use Rattle.desk_core.specs.Past.{past}
use Rattle.desk_core.specs.Seats.{calls_by}
use Rattle.desk_core.specs.Watch.{IsOlder}
use Rattle.hall.specs.Views.{seat_view}
use Rattle.hall.specs.Steps.{Seated, IsSeat, number_in, seen_in}
use Rattle.hall.specs.Seats.{SeatState, GoesOn, own_calls}
use Rattle.hall.proofs.Taken.{InHand, IsLeft, number_is, seat_of}

-- what the desk says of the seat's own entries
own_before : (me waiting : Seated) (number made : ℕ) (before : State) → InHand me waiting number made before → calls_by (past before.journal) number ≡ calls_by (seen_in me) number
own_before me waiting number made before hand =
    subst (λ (n : ℕ). calls_by (past before.journal) n ≡ calls_by (seen_in me) n) (number_is me number made hand.seat) hand.follows.own

-- it counts its entries
pub seat_left : (me waiting rested : Seated) (number made : ℕ) (before after : State) → InHand me waiting number made before → IsLeft before after
    → rested ≡ (seat_view (number_in waiting) (past after.journal) after.max_entries, []) → IsSeat rested number made
seat_left me waiting rested number made before after hand left rests =
    let same : past after.journal ≡ past before.journal = left.history in
    let numbered : number_in waiting ≡ number = ap number_in hand.has.1 ∙ number_is me number made hand.seat in
    let own : calls_by (past before.journal) number ≡ calls_by (seen_in me) number = own_before me waiting number made before hand in
    rw (rests, numbered, same) (record { rests = refl; made_is = hand.seat.made_is ∙ sym (ap length own); legal = hand.follows.legal })

-- its history goes on
pub gone_on : (old : SeatState) (table later : TableId) (me waiting rested : Seated) (number made : ℕ) (before after : State) → seat_of table me number ≡ old
    → InHand me waiting number made before → later ≡ table → IsLeft before after → rested ≡ (seat_view (number_in waiting) (past after.journal) after.max_entries, [])
    → GoesOn old (seat_of later rested number)
gone_on old table later me waiting rested number made before after view_is hand same left rests =
    let seen : seen_in rested ≡ past before.journal = ap seen_in rests ∙ left.history in
    let most : rested.0.most ≡ me.0.most = ap (λ (m : Seated). m.0.most) rests ∙ (left.limit ∙ hand.limit) in
    subst (λ (o : SeatState). GoesOn o (seat_of later rested number)) view_is (record {
      same = ap (λ (t : TableId). seat_of t rested number) same ∙ ap (λ (m : ℕ). record { table = table; most = m; number = number; seen = seen_in rested }) most;
      begins = subst (IsOlder (seen_in me)) (sym seen) hand.follows.begins;
      legal = subst IsLegal (sym seen) hand.follows.legal;
    })

-- it has no more entries of its own
pub own_kept : (old : SeatState) (table later : TableId) (me waiting rested : Seated) (number made : ℕ) (before after : State) → seat_of table me number ≡ old
    → InHand me waiting number made before → IsLeft before after → rested ≡ (seat_view (number_in waiting) (past after.journal) after.max_entries, [])
    → own_calls (seat_of later rested number) ≡ own_calls old
own_kept old table later me waiting rested number made before after view_is hand left rests =
    ap (λ (h : List Entry). calls_by h number) (ap seen_in rests ∙ left.history) ∙ (own_before me waiting number made before hand ∙ ap own_calls view_is)
