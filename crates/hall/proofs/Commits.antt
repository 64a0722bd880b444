-- The steps of the seat that has the desk keep the rule of a hall: a commit, and the passing of the turn.
use Rattle.std.proofs.Common.{◌≡◌, ℕ, ◌+◌, ◌%◌, ◌^◌, ◌<◌, ◌≢◌, List, [], ◌∷◌, length, slice_index, slice_set, sym, refl, ap, ◌∙◌, subst, arith}
use Rattle.std.specs.Prelude.{Some, None}
use Rattle.std.proofs.Math.Nat.{mod-add-mod}
use Rattle.std.proofs.lemmas.List.Sums.{sum_by-cons}
use mathlib.Core.Option.{some, none}
use Rattle.atomic_table.specs.Table.{Allows, keeps, gives}
use Rattle.desk_core.specs.declared.entry.Entry.{Entry}
use Rattle.desk_core.specs.Board.{board_of}
use Rattle.desk_core.specs.Desk.{State}
use Rattle.desk_core.specs.Legal.{IsLawfulCall}
use Rattle.desk_core.specs.Past.{past}
use Rattle.desk_core.specs.Reply.{reply_to}
use Rattle.desk_core.specs.Seats.{calls_by}
use Rattle.desk_core.specs.Watch.{IsOlder}
use Rattle.hall.specs.declared.view.Held.{Held}
use Rattle.hall.specs.declared.view.GateStage.{GateStage}
use Rattle.hall.specs.declared.view.GateStage.TheVariants.{Idle, Queued, Served}
use Rattle.hall.specs.declared.view.View.{View}
use Rattle.hall.specs.declared.view.HallLimits.{HallLimits}
use Rattle.hall.specs.Views.{held, waits, serves, made_by, at_stage, after_commit, desk_view}
use Rattle.hall.specs.Gates.{Moment, IsHome, IsHeld, IsStage, IsView, IsGated}
use Rattle.hall.specs.Steps.{Seated, Committed, Passed}
use Rattle.hall.proofs.Sums.{sum-set, each_set}
use Rattle.hall.proofs.Views.{older_self, older_cons, others_held, others_call, own_call, placed_set, mapped_number}

-- the moment after the history got one more entry
committed : Moment → Entry → Moment
committed m entry = record {
  history = entry ∷ m.history;
  most = m.most;
  drawn = m.drawn;
  served = m.served;
  out = 1;
  dealt = m.dealt;
  dealer = m.dealer;
  owner = m.owner;
  holder = m.holder;
}

-- the moment after the turn was passed
passing : Moment → Moment
passing m = record {
  history = m.history;
  most = m.most;
  drawn = m.drawn;
  served = m.served + 1;
  out = 0;
  dealt = m.dealt;
  dealer = m.dealer;
  owner = m.owner;
  holder = m.holder;
}

-- the stages of others are as before a commit
stage_committed : (m : Moment) (entry : Entry) (view j : ℕ) (stage : GateStage) → j ≢ view → m.holder m.served ≡ view → IsStage m j stage → IsStage (committed m entry) j stage
unfolding committed
stage_committed m entry view j Idle other holds is = tt
stage_committed m entry view j (Queued ticket) other holds is =
    (is.0, is.1, is.2, (λ same. absurd (other (sym is.2 ∙ (ap m.holder same ∙ holds)))))
stage_committed m entry view j (Served ticket history) other holds is = absurd (other (sym is.2 ∙ (ap m.holder is.0 ∙ holds)))

-- the stages of others after the turn was passed
stage_passed : (m : Moment) (view j : ℕ) (stage : GateStage) → j ≢ view → m.holder m.served ≡ view → IsStage m j stage → IsStage (passing m) j stage
unfolding passing
stage_passed m view j Idle other holds is = tt
stage_passed m view j (Queued ticket) other holds is =
    let apart : ticket ≢ m.served = λ same. other (sym is.2 ∙ (ap m.holder same ∙ holds)) in
    (omega (arith, is.0, apart), is.1, is.2, (λ same. refl))
stage_passed m view j (Served ticket history) other holds is = absurd (other (sym is.2 ∙ (ap m.holder is.0 ∙ holds)))

-- The seat that has the desk commits an entry of its own
pub commits : (key : HallLimits) (slots id number most ticket : ℕ) (history : List Entry) (entry : Entry)
    → entry.seat ≡ number → entry.reply ≡ reply_to history entry.call → IsLawfulCall entry.call → length history < most
    → let me : Seated = (desk_view number history most ticket history, (0, None) ∷ []) in
    Allows (IsGated key) slots id me 0 (λ found. board_of (entry ∷ history)) (λ found. Committed entry me (board_of (entry ∷ history)))
unfolding committed
commits key slots id number most ticket history entry seat reply lawful room table r _ at small =
    let m = r.moment in
    let v = desk_view number history most ticket history in
    let old = r.each id v at in
    let w = after_commit entry v in
    let m' = committed m entry in
    let whole : history ≡ m.history = old.stage.4 in
    let mine : IsHeld m.history m.dealt m.owner id (held number history) = old.seats.0 in
    let holds : m.holder m.served ≡ id = ap m.holder (sym old.stage.0) ∙ old.stage.2 in
    let by : m.owner entry.seat ≡ id = ap m.owner seat ∙ mine.owned in
    let most_is : most ≡ m.most = old.most (omega arith) in
    let grown : entry ∷ history ≡ entry ∷ m.history = ap (λ (h : List Entry). entry ∷ h) whole in
    let made : length (calls_by (entry ∷ history) number) ≡ length (calls_by history number) + 1 = ap length (own_call entry history number seat) ∙ omega arith in
    let before : made_by v.seats ≡ length (calls_by history number) = omega (arith, sum_by-cons (λ (s : Held). length (calls_by s.seen s.number)) (held number history) []) in
    let after : made_by w.seats ≡ length (calls_by (entry ∷ history) number) = omega (arith, sum_by-cons (λ (s : Held). length (calls_by s.seen s.number)) (held number (entry ∷ history)) []) in
    let own : IsView m' id w = record {
      seats = (
        record {
          older = subst (λ (h : List Entry). IsOlder (entry ∷ history) h) grown (older_self (entry ∷ history));
          own = ap (λ (h : List Entry). calls_by h number) (sym grown);
          dealt = mine.dealt;
          owned = mine.owned;
        },
        tt,
      );
      told = older_cons entry [] m.history old.told;
      stage = (old.stage.0, old.stage.1, old.stage.2, refl, grown);
      seated = old.seated;
      most = old.most;
      deals = old.deals;
    } in (
      w,
      keeps,
      tt,
      record {
        moment = m';
        bounds = r.bounds;
        most = r.most;
        words = ap (λ (ws : List ℕ). slice_set ws 0 (board_of (entry ∷ history))) r.words ∙ ap (λ (h : List Entry). board_of h ∷ m.drawn % 2 ^ 64 ∷ m.served % 2 ^ 64 ∷ []) grown;
        home = subst (λ out. IsHome out m.history m.most table.homes) old.stage.3 r.home;
        legal = (r.legal, reply ∙ ap (λ (h : List Entry). reply_to h entry.call) whole, lawful);
        room = omega (arith, room, ap length whole, most_is);
        few = r.few;
        fresh = λ n late. others_call entry m.history n (λ same. omega (arith, same, seat, late, mine.dealt)) ∙ r.fresh n late;
        each = each_set (IsView m') table.views id w own (λ j u other here.
            let was = r.each j u here in record {
              seats = others_held entry m.history m.dealt m.owner j u.seats (λ same. other (sym same ∙ by)) was.seats;
              told = older_cons entry u.told m.history was.told;
              stage = stage_committed m entry id j u.stage other holds was.stage;
              seated = was.seated;
              most = was.most;
              deals = was.deals;
            });
        placed = λ n early. placed_set table.views id v w n at (mapped_number (λ seat. held seat.number (entry ∷ seat.seen)) (λ seat. refl) n v.seats) (r.placed n early);
        numbers = omega (arith, sum-set (λ (u : View). length u.seats) table.views id v w at, r.numbers);
        tickets = omega (arith, sum-set (λ (u : View). waits u.stage) table.views id v w at, r.tickets);
        serving = omega (arith, sum-set (λ (u : View). serves u.stage) table.views id v w at, r.serving, old.stage.3);
        counted = omega (arith, sum-set (λ (u : View). made_by u.seats) table.views id v w at, r.counted, before, after, made);
      },
      refl,
    )

-- The seat that has the desk gives it back and passes the turn
pub passes : (key : HallLimits) (slots id number most ticket : ℕ) (seen history : List Entry) (desk : State)
    → past desk.journal ≡ history → desk.max_entries ≡ most
    → let me : Seated = (desk_view number seen most ticket history, (0, Some desk) ∷ []) in
    Allows (IsGated key) slots id me 2 (λ found. (found + 1) % 2 ^ 64) (Passed me)
unfolding passing
passes key slots id number most ticket seen history desk journal limit table r _ at small =
    let m = r.moment in
    let v = desk_view number seen most ticket history in
    let old = r.each id v at in
    let w = at_stage v Idle in
    let m' = passing m in
    let holds : m.holder m.served ≡ id = ap m.holder (sym old.stage.0) ∙ old.stage.2 in
    let away : table.homes ≡ none ∷ [] = subst (λ out. IsHome out m.history m.most table.homes) old.stage.3 r.home in
    let own : IsView m' id w = record {
      seats = old.seats;
      told = old.told;
      stage = tt;
      seated = omega arith;
      most = old.most;
      deals = old.deals;
    } in (
      w,
      gives,
      tt,
      record {
        moment = m';
        bounds = r.bounds;
        most = r.most;
        words = ap (λ (ws : List ℕ). slice_set ws 2 ((slice_index ws 2 + 1) % 2 ^ 64)) r.words
            ∙ ap (λ (n : ℕ). board_of m.history ∷ m.drawn % 2 ^ 64 ∷ n ∷ []) (mod-add-mod m.served (2 ^ 64) 1);
        home = (desk, ap (λ hs. slice_set hs 0 (some (Some desk))) away, journal ∙ old.stage.4, limit ∙ old.most (omega arith));
        legal = r.legal;
        room = r.room;
        few = r.few;
        fresh = r.fresh;
        each = each_set (IsView m') table.views id w own (λ j u other here.
            let was = r.each j u here in
            record { seats = was.seats; told = was.told; stage = stage_passed m id j u.stage other holds was.stage; seated = was.seated; most = was.most; deals = was.deals });
        placed = λ n early. placed_set table.views id v w n at (λ has. has) (r.placed n early);
        numbers = omega (arith, sum-set (λ (u : View). length u.seats) table.views id v w at, r.numbers);
        tickets = omega (arith, sum-set (λ (u : View). waits u.stage) table.views id v w at, r.tickets);
        serving = omega (arith, sum-set (λ (u : View). serves u.stage) table.views id v w at, r.serving, old.stage.3);
        counted = omega (arith, sum-set (λ (u : View). made_by u.seats) table.views id v w at, r.counted);
      },
      refl,
    )
