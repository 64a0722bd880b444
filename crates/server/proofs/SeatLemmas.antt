-- Seats that stay their hall's.
use Rattle.std.proofs.Common.{◌≡◌, ◌≤◌, ℕ, List, [], length, Option, Result, refl, sym, ap, subst, ◌∙◌, arith}
use Rattle.std.specs.Prelude.{slice_set}
use Rattle.std.specs.List.{All, range_with_len, slice_index_or}
use Rattle.std.proofs.lemmas.List.{get_or_default}
use Rattle.std.proofs.lemmas.List.Elements.{All-map, All-set}
use Rattle.std.proofs.lemmas.List.FromFn.{length-map-range_with_len}
use Rattle.desk_core.specs.declared.call.Call.{Call}
use Rattle.desk_core.specs.declared.refusal.Refusal.{Refusal}
use Rattle.desk_core.specs.declared.reply.Reply.{Reply}
use Rattle.hall.specs.Seats.{HallState, SeatState, IsOf, new_seats}
use Rattle.hall.specs.CarriedOut.{HasCarriedOut}
use Rattle.hall.proofs.CarryingOut.{are_ours}
use Rattle.server.specs.Setup.{AreSetUp}

-- all seats that a hall deals out are its own
pub dealt_ours : (hall : HallState) (most count : ℕ) (seats : List SeatState) → hall.most ≡ most → seats ≡ new_seats hall.table most count → All (IsOf hall) seats
dealt_ours hall most count seats is are = subst (λ (some : List SeatState). All (IsOf hall) some) (sym are)
    (All-map (IsOf hall) (λ number. record { table = hall.table; most = most; number = number; seen = [] }) (range_with_len 0 count) (λ k d few. record { table = refl; most = sym is }))

-- a seat that met changes stays the hall's
pub carried_ours : (hall : HallState) (old new : SeatState) (calls : List (Option Call)) (results : List (Result Reply Refusal)) → IsOf hall old → HasCarriedOut old new calls results → IsOf hall new
carried_ours hall old new calls results ours carried = are_ours hall old new calls results ours carried.done

-- they are as many as were asked for
pub new_len : (hall : HallState) (most count : ℕ) (seats : List SeatState) → seats ≡ new_seats hall.table most count → length seats ≡ count
new_len hall most count seats are = ap length are ∙ length-map-range_with_len _ 0 count

-- the first of them
pub first_ours : (hall : HallState) (most count : ℕ) (seats : List SeatState) (first : SeatState) → hall.most ≡ most → seats ≡ new_seats hall.table most count
    → 1 ≤ count → first ≡ slice_index_or seats 0 first → IsOf hall first
first_ours hall most count seats first is are some at = subst (IsOf hall) (sym at) (dealt_ours hall most count seats is are 0 first (omega (arith, new_len hall most count seats are, some)))

-- all of them, after the first met changes
pub set_up_ours : (hall : HallState) (most count : ℕ) (seats : List SeatState) (first new : SeatState) (calls : List (Option Call)) (results : List (Result Reply Refusal))
    → hall.most ≡ most → seats ≡ new_seats hall.table most count → IsOf hall first → HasCarriedOut first new calls results → All (IsOf hall) (slice_set seats 0 new)
set_up_ours hall most count seats first new calls results is are ours carried =
    All-set (IsOf hall) seats 0 new (carried_ours hall first new calls results ours carried) (dealt_ours hall most count seats is are)

-- the first of them met changes
pub set_up_by_first : (hall : HallState) (most count : ℕ) (seats : List SeatState) (first new : SeatState) (calls others : List (Option Call)) (results : List (Result Reply Refusal))
    → seats ≡ new_seats hall.table most count → 1 ≤ count → first ≡ slice_index_or seats 0 first → calls ≡ others → HasCarriedOut first new calls results
    → AreSetUp others results (new_seats hall.table most count) (slice_set seats 0 new)
set_up_by_first hall most count seats first new calls others results are some at same carried = record {
  first = new;
  met = λ other. subst (λ old. HasCarriedOut old new others results)
      (at ∙ (get_or_default seats 0 first other (omega (arith, new_len hall most count seats are, some)) ∙ ap (λ (l : List SeatState). slice_index_or l 0 other) are))
      (subst (λ c. HasCarriedOut first new c results) same carried);
  others = ap (λ (l : List SeatState). slice_set l 0 new) are;
}
