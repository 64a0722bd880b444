-- What a hall's rule says at its end, to a view that has all of its seats.
use Rattle.std.proofs.Common.{◌≡◌, ℕ, ◌≤◌, List, [], ◌∷◌, length, sym, refl, ap, ◌∙◌, subst, arith}
use Rattle.std.specs.Prelude.{Option, Some}
use Rattle.std.specs.List.{sum_by}
use mathlib.Core.Option.{some, some-injective}
use lib.ListN.{get_elem?}
use Rattle.atomic_table.specs.Table.{State as Table, Seen}
use Rattle.desk_core.specs.Desk.{State}
use Rattle.desk_core.specs.Legal.{IsLegal}
use Rattle.desk_core.specs.Past.{past}
use Rattle.hall.specs.declared.view.Held.{Held}
use Rattle.hall.specs.declared.view.GateStage.TheVariants.{Idle}
use Rattle.hall.specs.declared.view.View.{View}
use Rattle.hall.specs.declared.view.HallLimits.{HallLimits}
use Rattle.hall.specs.Views.{serves, made_by}
use Rattle.hall.specs.Gates.{IsHome, IsGated}
use Rattle.hall.specs.Steps.{AllBegin}
use Rattle.hall.proofs.Sums.{sum-alone}
use Rattle.hall.proofs.Views.{held_begin, serves_waits}

-- A hall of which one view has all seats and asks for nothing: the desk is at home, and its history is legal, goes on from what
-- each seat saw, and has the changes that the seats made and no others
pub record IsWhole (most : ℕ) (table : Table (Option State) View) (seats : List Held) : Type 0 where
  pub desk : State
  pub home : table.homes ≡ some (Some desk) ∷ []
  pub limit : desk.max_entries ≡ most
  pub legal : IsLegal (past desk.journal)
  pub begin : AllBegin (past desk.journal) seats
  pub counted : made_by seats ≡ length (past desk.journal)

none_made : (seats : List Held) → length seats ≡ 0 → made_by seats ≡ 0
none_made [] zero_long = refl
none_made (seat ∷ seats) zero_long = absurd (omega arith)

pub ends : (key : HallLimits) (table : Table (Option State) View) (id : ℕ) (v : View) → IsGated key table → get_elem? table.views id ≡ some v → v.stage ≡ Idle
    → length v.seats ≡ key.seats → IsWhole key.most table v.seats
ends key table id v r at idle all =
    let m = r.moment in
    let numbers : View → ℕ = λ x. length x.seats in
    let whole : sum_by numbers table.views ≤ numbers v = omega (arith, r.numbers, r.few, all) in
    let made : sum_by (λ (x : View). made_by x.seats) table.views ≡ made_by v.seats =
    sum-alone numbers (λ x. made_by x.seats) table.views id v at whole (λ j x here bare. none_made x.seats bare) in
    let serving : sum_by (λ (x : View). serves x.stage) table.views ≡ serves v.stage =
    sum-alone numbers (λ x. serves x.stage) table.views id v at whole (λ j x here bare. omega (arith, bare, (r.each j x here).seated, serves_waits x.stage)) in
    let home_out : m.out ≡ 0 = omega (arith, serving, r.serving, ap serves idle) in
    let home = subst (λ out. IsHome out m.history m.most table.homes) home_out r.home in
    let whole_history : past (home.0).journal ≡ m.history = home.2 in
    record {
      desk = home.0;
      home = home.1;
      limit = home.3 ∙ r.most;
      legal = subst IsLegal (sym whole_history) r.legal;
      begin = subst (λ h. AllBegin h v.seats) (sym whole_history) (held_begin m.history m.dealt m.owner id v.seats (r.each id v at).seats);
      counted = omega (arith, made, r.counted, ap length whole_history);
    }

-- what is found in the slot of such a hall
pub found_desk : (key : HallLimits) (table : Table (Option State) View) (id : ℕ) (v : View) (slots : List (Option State)) (found : Option State) → Seen (IsGated key) id v table → v.stage ≡ Idle
    → length v.seats ≡ key.seats → ((k : ℕ) (y : Option State) → get_elem? table.homes k ≡ some (some y) → get_elem? slots k ≡ some y) → get_elem? slots 0 ≡ some found
    → (whole : IsWhole key.most table v.seats) × (found ≡ Some whole.desk)
found_desk key table id v slots found seen idle all homes at =
    let whole = ends key table id v seen.0 seen.1 idle all in
    let there : get_elem? slots 0 ≡ some (Some whole.desk) = homes 0 (Some whole.desk) (ap (λ hs. get_elem? hs 0) whole.home) in
    (whole, some-injective found (Some whole.desk) (sym at ∙ there))
