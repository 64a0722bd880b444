-- What a registry has that begins to be stored, and what a crash leaves of one that was.
use Rattle.std.proofs.Common.{◌≡◌, ℕ, ◌≤◌, List, [], ◌∷◌, ◌++◌, length, refl, sym, ap, ◌∙◌, arith, length-append, append_assoc}
use Rattle.std.specs.List.{All}
use Rattle.std.proofs.lemmas.List.{length-reverse, reverse-append, reverse-reverse}
use Rattle.std.proofs.lemmas.List.Elements.{All-weaker}
use Rattle.atomic_table.specs.Seated.{TableId}
use Rattle.desk_core.specs.declared.entry.Entry.{Entry}
use Rattle.desk_core.specs.Desk.{State}
use Rattle.desk_core.specs.Left.{Begins, Holds}
use Rattle.desk_core.specs.Past.{past}
use Rattle.hall.specs.Seats.{SeatState, IsSeenIn}
use Rattle.hall.specs.Steps.{Seated, number_in, seen_in}
use Rattle.hall.specs.TakenBack.{HasSeen, NothingTakenBack}
use Rattle.hall.specs.Views.{seat_view}
use Rattle.hall.proofs.Taken.{InHand, IsLeft, seat_of}

-- what has no more entries than another list in its front has none in its front
nothing_newer : (newer older : List Entry) → length (newer ++ older) ≤ length older → newer ++ older ≡ older
nothing_newer [] older few = refl
nothing_newer (entry ∷ newer) older few = absurd (omega (arith, few, length-append newer older))

-- where a desk has as many entries as its seat has seen, the seat has seen them all
pub all_seen : (me waiting : Seated) (number made : ℕ) (before : State) → InHand me waiting number made before → length before.journal ≡ length (seen_in me) → past before.journal ≡ seen_in me
all_seen me waiting number made before hand many =
    let older = hand.follows.begins in
    older.is ∙ nothing_newer older.newer (seen_in me) (omega (arith, many, ap length older.is, length-reverse before.journal))

-- its journal is that of the history
pub journal_of : (me : Seated) (seen : List Entry) (before : State) → past before.journal ≡ seen_in me → seen_in me ≡ seen → before.journal ≡ past seen
journal_of me seen before all is = sym (reverse-reverse before.journal) ∙ ap past (all ∙ is)

-- the seat that gave such a desk back is as it was
pub same_seat : (old : SeatState) (table later : TableId) (me waiting rested : Seated) (number made : ℕ) (before after : State) → seat_of table me number ≡ old
    → InHand me waiting number made before → later ≡ table → past before.journal ≡ seen_in me → IsLeft before after
    → rested ≡ (seat_view (number_in waiting) (past after.journal) after.max_entries, []) → seat_of later rested number ≡ old
same_seat old table later me waiting rested number made before after view_is hand same all left rests =
    let seen : seen_in rested ≡ seen_in me = ap seen_in rests ∙ left.history ∙ all in
    let most : rested.0.most ≡ me.0.most = ap (λ (m : Seated). m.0.most) rests ∙ left.limit ∙ hand.limit in
    ap (λ (t : TableId). seat_of t rested number) same
    ∙ ap (λ (m : ℕ). record { table = table; most = m; number = number; seen = seen_in rested }) most
    ∙ ap (λ (s : List Entry). record { table = table; most = me.0.most; number = number; seen = s }) seen ∙ view_is

-- what begins with a journal goes on from what is seen in it
seen_still : (seat : SeatState) (journal j : List Entry) → IsSeenIn (past journal) seat → Begins journal j → HasSeen seat j
seen_still seat journal j seen (more, is) = record {
  newer = past more ++ seen.begins.newer;
  is = ap past is ∙ reverse-append journal more ∙ ap (λ l. past more ++ l) seen.begins.is ∙ sym (append_assoc (past more) seen.begins.newer seat.seen);
}

pub nothing_taken : (desk : State) (seats : List SeatState) → Holds desk.left desk.journal → All (IsSeenIn (past desk.journal)) seats → NothingTakenBack desk seats
nothing_taken desk seats holds seen = record {
  now = All-weaker (IsSeenIn (past desk.journal)) (λ seat. All (HasSeen seat) desk.left.now)
      (λ seat is. All-weaker (Begins desk.journal) (HasSeen seat) (λ j. seen_still seat desk.journal j is) desk.left.now holds.now) seats seen;
  ever = holds.ever;
}
