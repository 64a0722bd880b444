-- What a door that was asked to set a hall up leaves.
use Rattle.std.proofs.Common.{◌≡◌, List, Result, Ok, Err, IfOk, OnErr, ap}
use Rattle.std.specs.Prelude.{Option}
use Rattle.desk_core.specs.declared.call.Call.{Call}
use Rattle.desk_core.specs.declared.refusal.Refusal.{Refusal}
use Rattle.desk_core.specs.declared.reply.Reply.{Reply}
use Rattle.desk_core.specs.Mutation.{AreAnswered}
use Rattle.crew.specs.declared.door.HallDoor.{HallDoor}
use Rattle.hall.specs.CarriedOut.{HasCarriedOut}
use Rattle.crew.specs.HallDoor.{door_seat, CarriesOut}
use Rattle.hall.proofs.CarryingOut.{has_met}
use Rattle.crew.proofs.Orders.{by_door, same_reference}

-- its seat is the one that it was lent
pub stays_referenced : {R P K X E : Type 0} (results : X → List (Result Reply Refusal)) (old new : HallDoor R P K) (calls : List (Option Call)) (result : Result X E)
    → IfOk result (λ x. AreAnswered CarriesOut old new calls (results x)) → OnErr result (new ≡ old) → new.seat.ghost_name ≡ old.seat.ghost_name
stays_referenced results old new calls (Ok x) met unmet = same_reference old new calls (results x) met
stays_referenced results old new calls (Err e) met unmet = ap (λ (door : HallDoor _ _ _). door.seat.ghost_name) unmet

-- and that was asked for the changes
pub carried_by_door : {R P K X E : Type 0} (results : X → List (Result Reply Refusal)) (old new : HallDoor R P K) (calls : List (Option Call)) (result : Result X E)
    → IfOk result (λ x. AreAnswered CarriesOut old new calls (results x)) → IfOk result (λ x. HasCarriedOut (door_seat old) (door_seat new) calls (results x))
carried_by_door results old new calls (Ok x) met = has_met _ _ calls (results x) (by_door old new calls (results x) met)
carried_by_door results old new calls (Err e) met = tt

-- or was not
pub unmet_by_door : {R P K X E : Type 0} (old new : HallDoor R P K) (result : Result X E) → OnErr result (new ≡ old) → OnErr result (door_seat new ≡ door_seat old)
unmet_by_door old new (Ok x) same = tt
unmet_by_door old new (Err e) same = ap door_seat same
