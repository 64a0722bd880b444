-- What seats have made of their own, where the first of them alone has made changes.
use Rattle.std.proofs.Common.{◌≡◌, ℕ, zero, suc, ◌+◌, ◌<◌, ◌≤◌, List, [], ◌∷◌, ◌++◌, map, length, sym, refl, ap, subst, ◌∙◌, arith, length-append}
use Rattle.std.specs.Prelude.{Bool, true, false, cond, ◌==◌, filter, reverse, Option, Result, slice_set}
use Rattle.std.specs.List.{All, sum_by, range_with_len, slice_index_or}
use Rattle.std.proofs.lemmas.List.{append-nil, length-reverse, length-set, reverse-reverse}
use Rattle.std.proofs.lemmas.List.FromFn.{length-map-range_with_len}
use Rattle.std.proofs.lemmas.List.Elements.{All-head}
use Rattle.std.proofs.lemmas.List.Sums.{sum_by-cons}
use Rattle.desk_core.specs.declared.call.Call.{Call}
use Rattle.desk_core.specs.declared.entry.Entry.{Entry}
use Rattle.desk_core.specs.declared.refusal.Refusal.{Refusal}
use Rattle.desk_core.specs.declared.reply.Reply.{Reply}
use Rattle.desk_core.specs.Past.{past}
use Rattle.hall.specs.Seats.{HallState, SeatState, GoesOn, IsSeenIn, own_calls, new_seats, with_seen}
use Rattle.hall.specs.CarriedOut.{HasCarriedOut, replied}
use Rattle.server.specs.Setup.{AreSetUp}

-- how many changes a seat has made
abbrev pub made : SeatState → ℕ
made seat = length (own_calls seat)

-- some elements are at most as many as all
fewer_one : {X : Type 0} (b : Bool) (x : X) (some xs : List X) → length some ≤ length xs → length (cond b (x ∷ some) some) ≤ length (x ∷ xs)
fewer_one true x some xs few = omega (arith, few)
fewer_one false x some xs few = omega (arith, few)

fewer : {X : Type 0} (p : X → Bool) (xs : List X) → length (filter p xs) ≤ length xs
fewer p [] = omega arith
fewer p (x ∷ xs) = fewer_one (p x) x (filter p xs) xs (fewer p xs)

-- where they are as many, they are all
all_one : {X : Type 0} (b : Bool) (x : X) (some xs : List X) → length some ≤ length xs → (length some ≡ length xs → some ≡ xs) → length (cond b (x ∷ some) some) ≡ length (x ∷ xs)
    → cond b (x ∷ some) some ≡ x ∷ xs
all_one true x some xs few same many = ap (λ (all : List _). x ∷ all) (same (omega (arith, many)))
all_one false x some xs few same many = absurd (omega (arith, few, many))

pub all_pass : {X : Type 0} (p : X → Bool) (xs : List X) → length (filter p xs) ≡ length xs → filter p xs ≡ xs
all_pass p [] many = refl
all_pass p (x ∷ xs) many = all_one (p x) x (filter p xs) xs (fewer p xs) (all_pass p xs) many

-- a seat that was dealt out and has seen nothing
abbrev pub fresh : HallState → ℕ → SeatState
fresh hall number = record { table = hall.table; most = hall.most; number = number; seen = [] }

-- such seats have made nothing
unused : (hall : HallState) (first count : ℕ) → sum_by made (map (fresh hall) (range_with_len first count)) ≡ 0
unused hall first zero = refl
unused hall first (suc count) =
    let rest : List SeatState = map (fresh hall) (range_with_len (first + 1) count) in
    sum_by-cons made (fresh hall first) rest ∙ ap (λ (n : ℕ). made (fresh hall first) + n) (unused hall (first + 1) count)

-- all changes are the first seat's
pub alone : (hall : HallState) (count : ℕ) (seats : List SeatState) (first : SeatState) → seats ≡ slice_set (new_seats hall.table hall.most (suc count)) 0 first → sum_by made seats ≡ made first
alone hall count seats first are =
    let rest : List SeatState = map (fresh hall) (range_with_len 1 count) in
    let sum : sum_by made seats ≡ made first + sum_by made rest = ap (sum_by made) are ∙ sum_by-cons made first rest in
    omega (arith, sum, unused hall 1 count)

-- its own entries are those that the setup made
pub own_setup : (hall : HallState) (calls : List (Option Call)) (results : List (Result Reply Refusal)) (first : SeatState)
    → HasCarriedOut (record { table = hall.table; most = hall.most; number = 0; seen = [] }) first calls results → (first.number ≡ 0) × (own_calls first ≡ past (replied 0 calls results))
own_setup hall calls results first carried =
    (ap (λ (seat : SeatState). seat.number) carried.same, carried.own ∙ append-nil (past (replied 0 calls results)))

-- a history that has no more entries than a seat has made of its own is what that seat has made
pub own_alone : (history : List Entry) (seat : SeatState) → IsSeenIn history seat → length history ≡ made seat → history ≡ own_calls seat
own_alone history seat seen many =
    sym (all_pass (λ entry. entry.seat == seat.number) history (ap length seen.own ∙ sym many)) ∙ seen.own

-- a list without elements
none : {X : Type 0} (xs : List X) → length xs ≡ 0 → xs ≡ []
none [] empty = refl
none (x ∷ xs) empty = absurd (omega (arith, empty))

-- a seat that has made all that it has seen had seen as much before
pub stays : (old new : SeatState) → GoesOn old new → own_calls new ≡ own_calls old → length (own_calls new) ≡ length new.seen → new ≡ old
stays old new on kept many =
    let few : length (own_calls old) ≤ length old.seen = fewer (λ entry. entry.seat == old.number) old.seen in
    let grown : length new.seen ≡ length on.begins.newer + length old.seen = ap length on.begins.is ∙ length-append on.begins.newer old.seen in
    let same : length (own_calls new) ≡ length (own_calls old) = ap length kept in
    let empty : length on.begins.newer ≡ 0 = omega (arith, few, grown, same, many) in
    on.same ∙ ap (λ (seen : List Entry). with_seen old seen) (on.begins.is ∙ ap (λ (newer : List Entry). newer ++ old.seen) (none on.begins.newer empty))

-- the first seat of a hall that is set up
pub record IsFirst (calls : List (Option Call)) (results : List (Result Reply Refusal)) (seats : List SeatState) (first : SeatState) : Type 0 where
  pub own : own_calls first ≡ past (replied 0 calls results)
  pub at : (other : SeatState) → slice_index_or seats 0 other ≡ first

pub first_of : (hall : HallState) (count : ℕ) (calls : List (Option Call)) (results : List (Result Reply Refusal)) (seats : List SeatState) → 1 ≤ count
    → (set : AreSetUp calls results (new_seats hall.table hall.most count) seats) → IsFirst calls results seats set.first
first_of hall zero calls results seats some set = absurd (omega (arith, some))
first_of hall (suc count) calls results seats some set =
    let nobody : SeatState = fresh hall 0 in
    record {
      own = (own_setup hall calls results set.first (set.met nobody)).1;
      at = λ other. ap (λ (all : List SeatState). slice_index_or all 0 other) set.others;
    }

-- what it has seen, where it has made all of that
pub first_seen : (calls : List (Option Call)) (results : List (Result Reply Refusal)) (seats : List SeatState) (first : SeatState) → IsFirst calls results seats first
    → length (own_calls first) ≡ length first.seen → first.seen ≡ past (replied 0 calls results)
first_seen calls results seats first is many = sym (all_pass (λ entry. entry.seat == first.number) first.seen many) ∙ is.own

-- all seats are there that were dealt out
pub seats_dealt : (hall : HallState) (most count : ℕ) (calls : List (Option Call)) (results : List (Result Reply Refusal)) (seats : List SeatState)
    → AreSetUp calls results (new_seats hall.table most count) seats → length seats ≡ count
seats_dealt hall most count calls results seats set =
    ap length set.others
    ∙ (length-set (new_seats hall.table most count) 0 set.first
    ∙ length-map-range_with_len (λ number. record { table = hall.table; most = most; number = number; seen = [] }) 0 count)

-- a list whose first element is written over by itself
pub set_first : {X : Type 0} (xs : List X) (x : X) → 0 < length xs → x ≡ slice_index_or xs 0 x → slice_set xs 0 x ≡ xs
set_first [] x some is = absurd (omega (arith, some))
set_first (y ∷ ys) x some is = ap (λ (first : _). first ∷ ys) is

-- and so what a store has to have
pub stands_for_seen : {K : Type 0} (stands : K → List Entry → Type 0) (store : K) (seen journal : List Entry) → seen ≡ past journal → stands store journal → stands store (past seen)
stands_for_seen stands store seen journal is stands_for = subst (stands store) (sym (ap reverse is ∙ reverse-reverse journal)) stands_for

-- the journal of a hall with one seat, which has come back
pub only_seat : (hall : HallState) (calls : List (Option Call)) (results : List (Result Reply Refusal)) (seats : List SeatState) (journal : List Entry)
    → All (IsSeenIn (past journal)) seats → length journal ≡ sum_by made seats → AreSetUp calls results (new_seats hall.table hall.most 1) seats → journal ≡ replied 0 calls results
only_seat hall calls results seats journal seen counted set =
    let own : (set.first.number ≡ 0) × (own_calls set.first ≡ past (replied 0 calls results)) = own_setup hall calls results set.first (set.met (fresh hall 0)) in
    let first : IsSeenIn (past journal) set.first = All-head (IsSeenIn (past journal)) set.first [] (subst (All (IsSeenIn (past journal))) set.others seen) in
    let many : length (past journal) ≡ made set.first = length-reverse journal ∙ (counted ∙ alone hall 0 seats set.first set.others) in
    sym (reverse-reverse journal) ∙ (ap reverse (own_alone (past journal) set.first first many ∙ own.1) ∙ reverse-reverse (replied 0 calls results))
