-- Runs of orders, and what a door is asked for.
use Rattle.std.proofs.Common.{◌≡◌, ℕ, ◌+◌, ◌≤◌, ◌<◌, get_or, List, [], ◌∷◌, ◌++◌, map, length, take, sym, refl, ap, subst, ◌∙◌, arith, length-append}
use Rattle.std.specs.Prelude.{Option, Some, Result}
use Rattle.std.specs.List.{slice_get}
use Rattle.std.specs.Option.{option_map}
use Rattle.std.proofs.lemmas.Option.{slice_get-map, slice_get-get_or}
use Rattle.std.proofs.lemmas.List.{take_all, length-map}
use Rattle.desk_core.specs.declared.call.Call.{Call}
use Rattle.desk_core.specs.declared.refusal.Refusal.{Refusal}
use Rattle.desk_core.specs.declared.reply.Reply.{Reply}
use Rattle.desk_core.specs.Mutation.{AreAnswered, Ends, Then}
use Rattle.hall.specs.CarriedOut.{HasCarriedOut}
use Rattle.hall.specs.Seats.{SeatState, IsCarriedOut}
use Rattle.hall.proofs.CarryingOut.{has_met, meets_more}
use Rattle.crew.specs.declared.door.HallDoor.{HallDoor}
use Rattle.crew.specs.HallDoor.{door_seat, CarriesOut}
use Rattle.crew.proofs.Soundness.{take_with}

-- the part of a run that is done: so many of the changes are met, each with its result
pub record IsUnderWay (calls : List (Option Call)) (old now : SeatState) (count : ℕ) (results : List (Result Reply Refusal)) : Type 0 where
  pub met : AreAnswered IsCarriedOut old now (take count calls) results
  pub len : length results ≡ count

pub under_way_more : (calls : List (Option Call)) (old now new : SeatState) (count : ℕ) (call : Option Call) (results more : List (Result Reply Refusal)) (result : Result Reply Refusal)
    → IsUnderWay calls old now count results → slice_get calls count ≡ Some call → IsCarriedOut now new call result → more ≡ results ++ result ∷ []
    → IsUnderWay calls old new (count + 1) more
under_way_more calls old now new count call results more result way at met pushed = record {
  met = rw (pushed, take_with calls count call at) (meets_more old now new (take count calls) results call result way.met met);
  len = ap length pushed ∙ omega (arith, length-append results (result ∷ []), way.len);
}

-- an order more of a run
pub order_more : {X : Type 0} (f : X → Option Call) (orders : List X) (old now new : SeatState) (count : ℕ) (order : X) (results more : List (Result Reply Refusal)) (result : Result Reply Refusal)
    → IsUnderWay (map f orders) old now count results → count < length orders → order ≡ get_or orders count order → IsCarriedOut now new (f order) result
    → more ≡ results ++ result ∷ [] → IsUnderWay (map f orders) old new (count + 1) more
order_more f orders old now new count order results more result way within is met pushed =
    let at : slice_get orders count ≡ Some order = slice_get-get_or orders count order within ∙ ap Some (sym is) in
    under_way_more (map f orders) old now new count (f order) results more result way (slice_get-map f orders count ∙ ap (option_map f) at) met pushed

-- a run whose orders are all done
pub run_done : {X : Type 0} (f : X → Option Call) (orders : List X) (old new : SeatState) (count : ℕ) (results : List (Result Reply Refusal)) → IsUnderWay (map f orders) old new count results
    → length orders ≤ count → HasCarriedOut old new (map f orders) results
run_done f orders old new count results way all =
    let long : length (map f orders) ≤ count = omega (arith, length-map orders f, all) in
    has_met old new (map f orders) results (subst (λ cs. AreAnswered IsCarriedOut old new cs results) (take_all count (map f orders) long) way.met)

-- a run that begins
pub run_begins : (calls : List (Option Call)) (seat : SeatState) (results : List (Result Reply Refusal)) → results ≡ [] → IsUnderWay calls seat seat 0 results
run_begins calls seat results none = rw none (record { met = Ends seat; len = refl })

-- what a door is asked for, its seat is
pub by_door : {R P K : Type 0} (old new : HallDoor R P K) (calls : List (Option Call)) (results : List (Result Reply Refusal)) → AreAnswered CarriesOut old new calls results
    → AreAnswered IsCarriedOut (door_seat old) (door_seat new) calls results
by_door old new calls results (Ends door) = Ends (door_seat door)
by_door old new calls results (Then old' between new' call result calls' results' one rest) =
    Then (door_seat old) (door_seat between) (door_seat new) call result calls' results' one.carried (by_door between new calls' results' rest)

-- and it stays the seat that the door was lent
pub same_reference : {R P K : Type 0} (old new : HallDoor R P K) (calls : List (Option Call)) (results : List (Result Reply Refusal)) → AreAnswered CarriesOut old new calls results
    → new.seat.ghost_name ≡ old.seat.ghost_name
same_reference old new calls results (Ends door) = refl
same_reference old new calls results (Then old' between new' call result calls' results' one rest) =
    same_reference between new calls' results' rest ∙ one.reference
