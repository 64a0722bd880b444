-- Seats that come back to a hall one after another.
use Rattle.std.proofs.Common.{◌≡◌, ℕ, zero, suc, ◌++◌, List, [], ◌∷◌, length, map, sym, refl, ap, ◌∙◌, subst, arith}
use Rattle.std.specs.List.{All, sum_by}
use Rattle.std.proofs.lemmas.List.Sums.{sum_by-cons}
use Rattle.atomic_table.specs.Seated.{TableId}
use Rattle.desk_core.specs.declared.entry.Entry.{Entry}
use Rattle.desk_core.specs.Seats.{calls_by}
use Rattle.hall.specs.declared.view.Held.{Held}
use Rattle.hall.specs.declared.view.GateStage.TheVariants.{Idle}
use Rattle.hall.specs.Views.{made_by}
use Rattle.hall.specs.Seats.{SeatState, IsSeenIn, held_of, own_calls}
use Rattle.hall.specs.Steps.{Seated, IsSeat, AllBegin}
use Rattle.hall.proofs.Taken.{seat_of}

-- the first of these seats: it asks for nothing, and the others are of the same table
pub record Came (table own : TableId) (me : Seated) (first : SeatState) (others : List SeatState) : Type 0 where
  pub table_is : own ≡ table
  pub others_are : All (λ (seat : SeatState). seat.table ≡ table) others
  pub seats : me.0.seats ≡ held_of first ∷ []
  pub idle : me.0.stage ≡ Idle
  pub bare : me.1 ≡ []

pub came : (table own : TableId) (me : Seated) (number made : ℕ) (first : SeatState) (all others : List SeatState) → IsSeat me number made → seat_of own me number ≡ first
    → all ≡ first ∷ others → All (λ (seat : SeatState). seat.table ≡ table) all → Came table own me first others
came table own me number made first all others seat view_is list are =
    let are' : All (λ (seat : SeatState). seat.table ≡ table) (first ∷ others) = subst (All (λ (seat : SeatState). seat.table ≡ table)) list are in
    record {
      table_is = ap (λ (c : SeatState). c.table) view_is ∙ are' 0 first (omega arith);
      others_are = λ k d few. are' (suc k) d (omega (arith, few));
      seats = ap (λ (m : Seated). m.0.seats) seat.rests ∙ ap (λ (c : SeatState). held_of c ∷ []) view_is;
      idle = ap (λ (m : Seated). m.0.stage) seat.rests;
      bare = ap (λ (m : Seated). m.1) seat.rests;
    }

-- the seats that one view has gathered and those that are still to come are all
pub grown : (gathered later : List Held) (next : SeatState) (others all : List SeatState) (whole : List Held) → later ≡ gathered ++ held_of next ∷ [] → all ≡ next ∷ others
    → gathered ++ map held_of all ≡ whole → later ++ map held_of others ≡ whole
grown gathered later next others all whole grew list is =
    ap (λ (hs : List Held). hs ++ map held_of others) grew ∙ (assoc gathered ∙ (ap (λ (cs : List SeatState). gathered ++ map held_of cs) (sym list) ∙ is))
  where
    assoc : (xs : List Held) → (xs ++ held_of next ∷ []) ++ map held_of others ≡ xs ++ held_of next ∷ map held_of others
    assoc [] = refl
    assoc (x ∷ xs) = ap (λ (hs : List Held). x ∷ hs) (assoc xs)

-- what holds of the seats of a view holds of the seats that were gathered
pub end_in : (history : List Entry) (seats : List SeatState) → AllBegin history (map held_of seats) → All (IsSeenIn history) seats
end_in history [] begin = λ k d few. absurd (omega (arith, few))
end_in history (seat ∷ seats) begin = each_of history seat seats begin (end_in history seats begin.2)
  where
    each_of : (history : List Entry) (seat : SeatState) (seats : List SeatState) → AllBegin history (map held_of (seat ∷ seats)) → All (IsSeenIn history) seats → All (IsSeenIn history) (seat ∷ seats)
    each_of history seat seats begin later zero d few = record { begins = begin.0; own = begin.1 }
    each_of history seat seats begin later (suc k) d few = later k d (omega (arith, few))

pub made_in : (seats : List SeatState) → made_by (map held_of seats) ≡ sum_by (λ (seat : SeatState). length (own_calls seat)) seats
made_in [] = refl
made_in (seat ∷ seats) =
    omega (
      arith,
      sum_by-cons (λ (seat : Held). length (calls_by seat.seen seat.number)) (held_of seat) (map held_of seats),
      sum_by-cons (λ (c : SeatState). length (own_calls c)) seat seats,
      made_in seats,
    )
