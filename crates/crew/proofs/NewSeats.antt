-- The seats of a new hall.
use Rattle.std.proofs.Common.{ℕ, [], refl}
use Rattle.std.proofs.lemmas.List.Elements.{All-map}
use Rattle.std.specs.List.{All, range_with_len}
use Rattle.hall.specs.Seats.{HallState, IsOf, new_seats}

-- they are all its own
pub seats_are_its_own : (hall : HallState) (count : ℕ) → All (IsOf hall) (new_seats hall.table hall.most count)
seats_are_its_own hall count =
    All-map (IsOf hall) (λ number. record { table = hall.table; most = hall.most; number = number; seen = [] }) (range_with_len 0 count)
    (λ k d within. record { table = refl; most = refl })
