-- What a crew leaves of its seats.
use Rattle.std.specs.Prelude.{◌≡◌, ℕ, ◌+◌, ◌<◌, ◌≤◌, List, [], map, length, Vec, Result, is_ok}
use Rattle.std.specs.Global.{Global}
use Rattle.std.specs.List.{slice_index_or, sum_by, count_by}
use Rattle.desk_core.specs.declared.order.Order.{Order}
use Rattle.desk_core.specs.declared.refusal.Refusal.{Refusal}
use Rattle.desk_core.specs.declared.reply.Reply.{Reply}
use Rattle.desk_core.specs.Order.{ordered}
use Rattle.hall.specs.Seats.{SeatState, own_calls}
use Rattle.hall.specs.CarriedOut.{HasCarriedOut}
use Rattle.hall.specs.Looking.{HasLooked}

-- the lists in a vector of vectors
abbrev pub lists_in : {X : Type 0} → Vec (Vec X Global) Global → List (List X)
lists_in vectors = map (λ vector. vector.items) vectors.items

-- A crew of so many workers has served, over a catalogue of these names, and has run these lists of orders with these results.
-- The first seats are the workers', which have at most looked. Those behind them are the lists', in their order: each was asked for
-- what its orders ask for. The others are as they were. So all seats together have made as many changes more as got a reply
pub record CrewHasServed (names : List (List ℕ)) (workers : ℕ) (lists : List (List Order)) (results : List (List (Result Reply Refusal)))
    (old new : List SeatState) : Type 0 where
  pub seats : length new ≡ length old
  pub answered : length results ≡ length lists
  pub looked : (place : ℕ) (other : SeatState) → place < workers
      → HasLooked (slice_index_or old place other) (slice_index_or new place other)
  pub ran : (list : ℕ) (other : SeatState) → list < length lists
      → HasCarriedOut (slice_index_or old (workers + list) other) (slice_index_or new (workers + list) other)
      (map (ordered names) (slice_index_or lists list [])) (slice_index_or results list [])
  pub spare : (place : ℕ) (other : SeatState) → workers + length lists ≤ place
      → slice_index_or new place other ≡ slice_index_or old place other
  pub made : sum_by (λ seat. length (own_calls seat)) new ≡ sum_by (λ seat. length (own_calls seat)) old + sum_by (count_by is_ok) results
