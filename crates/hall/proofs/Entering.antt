-- What a seat has once its turn has come: the desk, whose history goes on from what the seat had seen.
use Rattle.std.proofs.Common.{◌≡◌, ℕ, ◌≤◌, List, [], ◌∷◌, length, sym, ap, ◌∙◌, subst, arith}
use Rattle.std.specs.Prelude.{Option, Some, None, unwrap_or}
use Rattle.std.proofs.lemmas.List.{length-reverse}
use Rattle.atomic_table.specs.Table.{rest}
use Rattle.desk_core.specs.declared.entry.Entry.{Entry}
use Rattle.desk_core.specs.Desk.{State}
use Rattle.desk_core.specs.Past.{past}
use Rattle.hall.specs.declared.view.GateStage.TheVariants.{Queued, Served}
use Rattle.hall.specs.Views.{at_stage, seat_view, desk_view}
use Rattle.hall.specs.Steps.{Seated, HasTurn, Looks, HasDesk, Follows}

-- what the first slot that a seat holds has in it
abbrev held_in : List (ℕ × Option State) → Option State
held_in [] = None
held_in (slot ∷ slots) = slot.1

-- a seat that took the desk out of its slot and has looked at the board
pub record Entered (number most : ℕ) (seen : List Entry) (desk : State) (seat : Seated) : Type 0 where
  pub limit : desk.max_entries ≡ most
  pub room : length desk.journal ≤ desk.max_entries
  pub has : HasDesk seat number most (past desk.journal)
  pub follows : Follows number seen (past desk.journal)

pub entered : (number most ticket found : ℕ) (seen history : List Entry) (waiting served taken looked : Seated) (slot : Option State) (desk : State)
    → waiting ≡ (at_stage (seat_view number seen most) (Queued ticket), []) → HasTurn waiting ticket served → served.1 ≡ (0, slot) ∷ rest served.1
    → taken ≡ (served.0, (0, None) ∷ rest served.1) → slot ≡ Some desk → Looks history taken found looked → Entered number most seen desk looked
entered number most ticket found seen history waiting served taken looked slot desk waits turn has takes is looks =
    let h = turn.0 in
    let home = turn.1 in
    let served_is : served ≡ (desk_view number seen most ticket h, (0, Some home) ∷ []) =
    turn.4 ∙ ap (λ (me : Seated). (at_stage me.0 (Served ticket h), (0, Some home) ∷ me.1)) waits in
    let same_slot : slot ≡ Some home = ap held_in (sym has) ∙ ap (λ (me : Seated). held_in me.1) served_is in
    let same : desk ≡ home = ap (λ (d : Option State). unwrap_or d desk) (sym is ∙ same_slot) in
    let taken_is : taken ≡ (desk_view number seen most ticket h, (0, None) ∷ []) = takes ∙ ap (λ (me : Seated). (me.0, (0, None) ∷ rest me.1)) served_is in
    let look : Looks history (desk_view number seen most ticket h, (0, None) ∷ []) found looked = subst (λ (me : Seated). Looks history me found looked) taken_is looks in
    let out : h ≡ past desk.journal = sym turn.2 ∙ ap (λ (d : State). past d.journal) (sym same) in
    let whole : history ≡ past desk.journal = sym look.out ∙ out in
    let limit : desk.max_entries ≡ most = ap (λ (d : State). d.max_entries) same ∙ (turn.3 ∙ ap (λ (me : Seated). me.0.most) waits) in
    record {
      limit = limit;
      room = omega (arith, look.room (omega arith), limit, ap length whole, length-reverse desk.journal);
      has = (
        ticket,
        look.sees
            ∙ (ap (λ (x : List Entry). (desk_view number x most ticket h, (0, None) ∷ [])) whole
            ∙ ap (λ (x : List Entry). (desk_view number (past desk.journal) most ticket x, (0, None) ∷ [])) out),
      );
      follows = subst (Follows number seen) whole (record { begins = look.seats.0; own = look.seats.1; legal = look.legal; limit = look.limit });
    }
