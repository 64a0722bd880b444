-- The seats that sessions use, before and after lines were met by them.
use Rattle.std.proofs.Common.{◌≡◌, ℕ, zero, suc, ◌<◌, List, [], ◌∷◌, length, get_or, refl, sym, subst, ◌∙◌, arith, ⊎_elim}
use Rattle.std.specs.Prelude.{IfSome, None, Option, Some, slice_set}
use Rattle.std.specs.List.{All}
use Rattle.std.proofs.lemmas.Bool.{cases_eq}
use Rattle.std.proofs.lemmas.List.{get_or-set_other, get_or-set_same, length-set}
use Rattle.std.proofs.lemmas.List.Elements.{All-get_or}
use Rattle.control.specs.declared.terms.Terms.{Terms}
use Rattle.hall.specs.Seats.{HallState, SeatState, IsOf}
use Rattle.control_server.specs.Seats.{MetLines, SeatsHaveMet}
use Rattle.control_server.specs.Sessions.{unused}
use Rattle.control_server.proofs.MadeLemmas.{met_ours}

-- each seat stays the hall's
pub met_line_ours : (kept : Option ℕ) (terms : Terms) (names : List (List ℕ)) (hall : HallState) (old new : SeatState) → MetLines kept terms names old new → IsOf hall old → IsOf hall new
met_line_ours kept terms names hall old new met ours = met_ours kept terms names hall old new met.lines met.answers met.met ours

pub seats_ours : (kept : Option ℕ) (terms : Terms) (names : List (List ℕ)) (hall : HallState) (old new : List SeatState) → SeatsHaveMet kept terms names old new → All (IsOf hall) old → All (IsOf hall) new
seats_ours kept terms names hall old new met ours place other below =
    let within : place < length old = omega (arith, below, met.count) in
    met_line_ours kept terms names hall (get_or old place other) (get_or new place other) (met.each place other within) (All-get_or (IsOf hall) old place other within ours)

-- what stands at a place does not depend on what would be found behind the end
same_at : (seats : List SeatState) (key : ℕ) (a b : SeatState) → key < length seats → get_or seats key a ≡ get_or seats key b
same_at [] key a b within = absurd (omega (arith, within))
same_at (seat ∷ seats) zero a b within = refl
same_at (seat ∷ seats) (suc key) a b within = same_at seats key a b (omega (arith, within))

-- one seat has met lines
one_at : (kept : Option ℕ) (terms : Terms) (names : List (List ℕ)) (seats : List SeatState) (key : ℕ) (seat seat' : SeatState) → key < length seats → seat ≡ get_or seats key seat → MetLines kept terms names seat seat'
    → (place : ℕ) (other : SeatState) → place < length seats → MetLines kept terms names (get_or seats place other) (get_or (slice_set seats key seat') place other)
one_at kept terms names seats key seat seat' within is met place other below =
    ⊎_elim
    (λ same. subst (λ (n : ℕ). MetLines kept terms names (get_or seats n other) (get_or (slice_set seats key seat') n other)) (sym same)
    (subst (λ (one : SeatState). MetLines kept terms names (get_or seats key other) one) (sym (get_or-set_same seats key seat' other within))
    (subst (λ (one : SeatState). MetLines kept terms names one seat') (is ∙ same_at seats key seat other within) met)))
    (λ apart. subst (λ (one : SeatState). MetLines kept terms names (get_or seats place other) one) (sym (get_or-set_other seats key place seat' other apart)) (unused kept terms names (get_or seats place other)))
    (cases_eq place key)

pub one_met : (kept : Option ℕ) (terms : Terms) (names : List (List ℕ)) (seats : List SeatState) (key : ℕ) (seat seat' : SeatState) → key < length seats → seat ≡ get_or seats key seat → MetLines kept terms names seat seat'
    → SeatsHaveMet kept terms names seats (slice_set seats key seat')
one_met kept terms names seats key seat seat' within is met = record { count = length-set seats key seat'; each = one_at kept terms names seats key seat seat' within is met }

-- the second of two things that hold of what there is, if there is anything
pub second_of : {A : Type 0} (First Second : A → Type 0) (found : Option A) → IfSome found (λ a. First a × Second a) → IfSome found Second
second_of First Second (Some a) both = both.1
second_of First Second None both = tt
