-- A door over a hall: its catalogue, and what its seat has seen.
use Rattle.std.proofs.Common.{◌≡◌, [], ◌++◌, Option, Result, refl, ap, sym, ◌∙◌, append_assoc}
use Rattle.desk_core.specs.declared.call.Call.{Call}
use Rattle.desk_core.specs.declared.refusal.Refusal.{Refusal}
use Rattle.desk_core.specs.declared.reply.Reply.{Reply}
use Rattle.hall.specs.Seats.{HallState, SeatState, IsCarriedOut, with_seen}
use Rattle.crew.specs.declared.door.HallDoor.{HallDoor}
use Rattle.hall.specs.Looking.{HasLooked}

-- the hall behind the door
abbrev pub door_hall : {R P K : Type 0} → HallDoor R P K → HallState
door_hall door = door.hall.now

-- the seat that it looks and makes changes with
abbrev pub door_seat : {R P K : Type 0} → HallDoor R P K → SeatState
door_seat door = door.seat.now

-- the door is over the same hall and the same seat, which has at most seen more
pub record StaysAt {R P K : Type 0} (old new : HallDoor R P K) : Type 0 where
  pub reference : new.seat.ghost_name ≡ old.seat.ghost_name
  pub hall : door_hall new ≡ door_hall old
  pub looked : HasLooked (door_seat old) (door_seat new)

-- the door is over the same hall and the same seat, which was asked for a change
pub record CarriesOut {R P K : Type 0} (old new : HallDoor R P K) (call : Option Call) (result : Result Reply Refusal) : Type 0 where
  pub reference : new.seat.ghost_name ≡ old.seat.ghost_name
  pub hall : door_hall new ≡ door_hall old
  pub carried : IsCarriedOut (door_seat old) (door_seat new) call result

-- a door stays at the seat where it has done nothing, and where it does so twice
pub stays_same : {R P K : Type 0} (a : HallDoor R P K) → StaysAt a a
stays_same a = record {
  reference = refl;
  hall = refl;
  looked = record { same = refl; begins = record { newer = []; is = refl }; own = refl };
}

pub stays_then : {R P K : Type 0} (a b c : HallDoor R P K) → StaysAt a b → StaysAt b c → StaysAt a c
stays_then a b c p q =
    let early = p.looked.begins in
    let late = q.looked.begins in
    record {
      reference = q.reference ∙ p.reference;
      hall = q.hall ∙ p.hall;
      looked = record {
        same = q.looked.same ∙ ap (λ seat. with_seen seat (door_seat c).seen) p.looked.same;
        begins = record {
          newer = late.newer ++ early.newer;
          is = late.is ∙ (ap (λ older. late.newer ++ older) early.is ∙ sym (append_assoc late.newer early.newer (door_seat a).seen));
        };
        own = q.looked.own ∙ p.looked.own;
      };
    }
