-- Each step at the gate keeps the rule of a hall, and tells its seat what it says.
use Rattle.std.proofs.Common.{◌≡◌, ℕ, ◌+◌, ◌%◌, ◌^◌, ◌<◌, ◌≤◌, ◌≢◌, ◌==◌, if◌then◌else◌, List, [], ◌∷◌, length, set, slice_index, slice_set, sym, refl, ap, ◌∙◌, subst, arith, ne_eqb, eq-eqb}
use Rattle.std.specs.Prelude.{Option, Some}
use Rattle.std.proofs.Math.Nat.{mod-add-mod}
use Rattle.std.proofs.lemmas.List.{length-map}
use mathlib.Core.Option.{some, none}
use mathlib.Core.Logic.{dite}
use native.Mathlib.Decide.{ℕ_discrete}
use lib.ListN.{get_elem?}
use Rattle.atomic_table.specs.Table.{State as Table, Allows, Act, keeps, takes, Valid, stepped, carried_after}
use Rattle.atomic_table.proofs.Lists.{one_turn, set_again}
use Rattle.desk_core.specs.Board.{board_of}
use Rattle.desk_core.specs.Desk.{State}
use Rattle.hall.specs.declared.view.GateStage.{GateStage}
use Rattle.hall.specs.declared.view.GateStage.TheVariants.{Idle, Queued, Served}
use Rattle.hall.specs.declared.view.View.{View}
use Rattle.hall.specs.declared.view.HallLimits.{HallLimits}
use Rattle.hall.specs.Views.{held, waits, serves, made_by, at_stage, after_look}
use Rattle.hall.specs.Gates.{Moment, IsHome, IsStage, IsView, IsGated}
use Rattle.hall.specs.Steps.{Seated, Drawn, Turned, Looked}
use Rattle.hall.proofs.Sums.{sum-set, sum-mono, each_set}
use Rattle.hall.proofs.Views.{older_nil, looked_held, looked_made, held_begin, stage_out, serves_waits, placed_set, mapped_number}

-- as many tickets are out as views wait, of which there are no more than seats
few_out : (key : HallLimits) (table : Table (Option State) View) (r : IsGated key table) → r.moment.drawn ≤ r.moment.served + key.seats
few_out key table r =
    let less = sum-mono (λ (view : View). waits view.stage) (λ (view : View). length view.seats) table.views (λ j view at. (r.each j view at).seated) in
    omega (arith, less, r.numbers, r.tickets, r.few)

-- where all drawn tickets were served, the desk is at home
none_out : (key : HallLimits) (table : Table (Option State) View) (r : IsGated key table) → r.moment.drawn ≡ r.moment.served → r.moment.out ≡ 0
none_out key table r same =
    let less = sum-mono (λ (view : View). serves view.stage) (λ (view : View). waits view.stage) table.views (λ j view at. serves_waits view.stage) in
    omega (arith, less, r.serving, r.tickets, same)

-- whoever else holds a ticket holds it still, when another is drawn
other_holder : (holder : ℕ → ℕ) (ticket drawn view : ℕ) → ticket ≢ drawn → (if ticket == drawn then view else holder ticket) ≡ holder ticket
other_holder holder ticket drawn view other = rw (ne_eqb ticket drawn other) refl

new_holder : (holder : ℕ → ℕ) (drawn view : ℕ) → (if drawn == drawn then view else holder drawn) ≡ view
new_holder holder drawn view = rw (eq-eqb drawn drawn refl) refl

-- the moment after a ticket was drawn
drawing : Moment → ℕ → Moment
drawing m view = record {
  history = m.history;
  most = m.most;
  drawn = m.drawn + 1;
  served = m.served;
  out = m.out;
  dealt = m.dealt;
  dealer = m.dealer;
  owner = m.owner;
  holder = λ ticket. if ticket == m.drawn then view else m.holder ticket;
}

stage_drawn : (m : Moment) (view j : ℕ) (stage : GateStage) → IsStage m j stage → IsStage (drawing m view) j stage
unfolding drawing
stage_drawn m view j Idle is = tt
stage_drawn m view j (Queued ticket) is =
    (is.0, omega (arith, is.1), other_holder m.holder ticket m.drawn view (λ same. omega (arith, is.1, same)) ∙ is.2, is.3)
stage_drawn m view j (Served ticket history) is =
    (is.0, omega (arith, is.1), other_holder m.holder ticket m.drawn view (λ same. omega (arith, is.1, same)) ∙ is.2, is.3, is.4)

-- a seat that waits for nothing draws a ticket
pub draws : (key : HallLimits) (slots id : ℕ) (me : Seated) → me.0.stage ≡ Idle → 0 < length me.0.seats
    → Allows (IsGated key) slots id me 1 (λ found. (found + 1) % 2 ^ 64) (Drawn me)
unfolding drawing
draws key slots id me idle seated table r _ at small =
    let m = r.moment in
    let v = me.0 in
    let old = r.each id v at in
    let w = at_stage v (Queued m.drawn) in
    let m' = drawing m id in
    let none_waits : waits v.stage ≡ 0 = ap waits idle in
    let none_served : serves v.stage ≡ 0 = ap serves idle in
    let found : slice_index table.words 1 ≡ m.drawn % 2 ^ 64 = ap (λ (ws : List ℕ). slice_index ws 1) r.words in
    let own : IsView m' id w = record {
      seats = old.seats;
      told = old.told;
      stage = (omega (arith, r.tickets), omega arith, new_holder m.holder m.drawn id, none_out key table r);
      seated = seated;
      most = old.most;
      deals = old.deals;
    } in (
      w,
      keeps,
      tt,
      record {
        moment = m';
        bounds = r.bounds;
        most = r.most;
        words = ap (λ (ws : List ℕ). slice_set ws 1 ((slice_index ws 1 + 1) % 2 ^ 64)) r.words
            ∙ ap (λ (n : ℕ). board_of m.history ∷ n ∷ m.served % 2 ^ 64 ∷ []) (mod-add-mod m.drawn (2 ^ 64) 1);
        home = r.home;
        legal = r.legal;
        room = r.room;
        few = r.few;
        fresh = r.fresh;
        each = each_set (IsView m') table.views id w own (λ j u other here.
            let was = r.each j u here in
            record { seats = was.seats; told = was.told; stage = stage_drawn m id j u.stage was.stage; seated = was.seated; most = was.most; deals = was.deals });
        placed = λ n early. placed_set table.views id v w n at (λ has. has) (r.placed n early);
        numbers = omega (arith, sum-set (λ (u : View). length u.seats) table.views id v w at, r.numbers);
        tickets = omega (arith, sum-set (λ (u : View). waits u.stage) table.views id v w at, r.tickets, none_waits);
        serving = omega (arith, sum-set (λ (u : View). serves u.stage) table.views id v w at, r.serving, none_served);
        counted = omega (arith, sum-set (λ (u : View). made_by u.seats) table.views id v w at, r.counted);
      },
      (m.drawn, found, refl),
    )

-- which ticket a stage waits for
ticket_of : GateStage → ℕ
ticket_of Idle = 0
ticket_of (Queued ticket) = ticket
ticket_of (Served ticket history) = ticket

-- the moment after the holder of the ticket served has taken the desk
taking : Moment → Moment
taking m = record {
  history = m.history;
  most = m.most;
  drawn = m.drawn;
  served = m.served;
  out = 1;
  dealt = m.dealt;
  dealer = m.dealer;
  owner = m.owner;
  holder = m.holder;
}

-- the stages of others, where this view holds the ticket served
stage_taken : (m : Moment) (view j : ℕ) (stage : GateStage) → j ≢ view → m.holder m.served ≡ view → IsStage m j stage → IsStage (taking m) j stage
unfolding taking
stage_taken m view j Idle other holds is = tt
stage_taken m view j (Queued ticket) other holds is =
    (is.0, is.1, is.2, (λ same. absurd (other (sym is.2 ∙ (ap m.holder same ∙ holds)))))
stage_taken m view j (Served ticket history) other holds is = absurd (other (sym is.2 ∙ (ap m.holder is.0 ∙ holds)))

-- a seat whose ticket is served takes the desk, which is at home
takes_turn : (key : HallLimits) (id ticket : ℕ) (me : Seated) (table : Table (Option State) View) (r : IsGated key table)
    → get_elem? table.views id ≡ some me.0 → me.0.stage ≡ Queued ticket → r.moment.served ≡ ticket → IsHome 0 r.moment.history r.moment.most table.homes
    → slice_index table.words 2 ≡ r.moment.served % 2 ^ 64
    → (w : View) × (a : Act (Option State)) × Valid table.homes me.1 a
    × IsGated key (stepped table 2 (slice_index table.words 2) id me.1 w a) × Turned me (slice_index table.words 2) (w, carried_after me.1 a)
unfolding taking ticket_of
takes_turn key id ticket me table r at queued served home found =
    let m = r.moment in
    let v = me.0 in
    let old = r.each id v at in
    let desk = home.0 in
    let w = at_stage v (Served ticket m.history) in
    let m' = taking m in
    let is : IsStage m id (Queued ticket) = subst (IsStage m id) queued old.stage in
    let waits_one : waits v.stage ≡ 1 = ap waits queued in
    let none_served : serves v.stage ≡ 0 = ap serves queued in
    let seated : 1 ≤ length v.seats = omega (arith, waits_one, old.seated) in
    let out : m.out ≡ 0 = is.3 (sym served) in
    let holds : m.holder m.served ≡ id = ap m.holder served ∙ is.2 in
    let own : IsView m' id w = record {
      seats = old.seats;
      told = old.told;
      stage = (sym served, is.1, is.2, refl, refl);
      seated = seated;
      most = old.most;
      deals = old.deals;
    } in (
      w,
      takes 0 (Some desk),
      ap (λ hs. get_elem? hs 0) home.1,
      record {
        moment = m';
        bounds = r.bounds;
        most = r.most;
        words = ap (λ (ws : List ℕ). slice_set ws 2 (slice_index ws 2)) r.words;
        home = ap (λ hs. slice_set hs 0 none) home.1;
        legal = r.legal;
        room = r.room;
        few = r.few;
        fresh = r.fresh;
        each = each_set (IsView m') table.views id w own (λ j u other here.
            let was = r.each j u here in
            record { seats = was.seats; told = was.told; stage = stage_taken m id j u.stage other holds was.stage; seated = was.seated; most = was.most; deals = was.deals });
        placed = λ n early. placed_set table.views id v w n at (λ has. has) (r.placed n early);
        numbers = omega (arith, sum-set (λ (u : View). length u.seats) table.views id v w at, r.numbers);
        tickets = omega (arith, sum-set (λ (u : View). waits u.stage) table.views id v w at, r.tickets, waits_one);
        serving = omega (arith, sum-set (λ (u : View). serves u.stage) table.views id v w at, r.serving, none_served, out);
        counted = omega (arith, sum-set (λ (u : View). made_by u.seats) table.views id v w at, r.counted);
      },
      (λ ticket' queued'.
          let same : ticket ≡ ticket' = ap ticket_of (sym queued ∙ queued') in (
            (λ yes. (m.history, desk, home.2, home.3 ∙ sym (old.most seated), ap (λ (t : ℕ). (at_stage v (Served t m.history), (0, Some desk) ∷ me.1)) same)),
            (λ no. absurd (no (found ∙ ap (λ (t : ℕ). t % 2 ^ 64) (served ∙ same)))),
          )),
    )

-- a seat whose ticket is not served looks in vain
waits_on : (key : HallLimits) (id ticket : ℕ) (me : Seated) (table : Table (Option State) View) (r : IsGated key table)
    → get_elem? table.views id ≡ some me.0 → me.0.stage ≡ Queued ticket → r.moment.served % 2 ^ 64 ≢ ticket % 2 ^ 64
    → slice_index table.words 2 ≡ r.moment.served % 2 ^ 64
    → (w : View) × (a : Act (Option State)) × Valid table.homes me.1 a
    × IsGated key (stepped table 2 (slice_index table.words 2) id me.1 w a) × Turned me (slice_index table.words 2) (w, carried_after me.1 a)
unfolding ticket_of
waits_on key id ticket me table r at queued other found =
    let m = r.moment in
    let same : set table.views id me.0 ≡ table.views = set_again table.views id me.0 at in (
      me.0,
      keeps,
      tt,
      record {
        moment = m;
        bounds = r.bounds;
        most = r.most;
        words = ap (λ (ws : List ℕ). slice_set ws 2 (slice_index ws 2)) r.words;
        home = r.home;
        legal = r.legal;
        room = r.room;
        few = r.few;
        fresh = r.fresh;
        each = rw same r.each;
        placed = rw same r.placed;
        numbers = rw same r.numbers;
        tickets = rw same r.tickets;
        serving = rw same r.serving;
        counted = rw same r.counted;
      },
      (λ ticket' queued'.
          let is : ticket ≡ ticket' = ap ticket_of (sym queued ∙ queued') in
          ((λ yes. absurd (other (sym found ∙ (yes ∙ ap (λ (t : ℕ). t % 2 ^ 64) (sym is))))), (λ no. refl))),
    )

-- a seat that has drawn a ticket looks whether it is served
pub turns : (key : HallLimits) (slots id ticket : ℕ) (me : Seated) → me.0.stage ≡ Queued ticket
    → Allows (IsGated key) slots id me 2 (λ found. found) (Turned me)
turns key slots id ticket me queued table r _ at small =
    let m = r.moment in
    let is : IsStage m id (Queued ticket) = subst (IsStage m id) queued (r.each id me.0 at).stage in
    let found : slice_index table.words 2 ≡ m.served % 2 ^ 64 = ap (λ (ws : List ℕ). slice_index ws 2) r.words in
    dite (ℕ_discrete (m.served % 2 ^ 64) (ticket % 2 ^ 64))
    (λ yes.
    let served : m.served ≡ ticket = one_turn m.served ticket (2 ^ 64) is.0 (omega (arith, is.1, few_out key table r, r.bounds.1)) yes in
    takes_turn key id ticket me table r at queued served (subst (λ out. IsHome out m.history m.most table.homes) (is.3 (sym served)) r.home) found)
    (λ no. waits_on key id ticket me table r at queued no found)

-- a seat looks at the board
pub looks : (key : HallLimits) (slots id : ℕ) (me : Seated) → Allows (IsGated key) slots id me 0 (λ found. found) (Looked me)
looks key slots id me table r _ at small =
    let m = r.moment in
    let v = me.0 in
    let old = r.each id v at in
    let w = after_look m.history v in
    let few : length w.seats ≡ length v.seats = length-map v.seats (λ seat. held seat.number m.history) in
    let made : made_by w.seats ≡ made_by v.seats = looked_made m.history m.dealt m.owner id v.seats old.seats in
    let own : IsView m id w = record {
      seats = looked_held m.history m.dealt m.owner id v.seats old.seats;
      told = older_nil m.history;
      stage = old.stage;
      seated = omega (arith, old.seated, few);
      most = λ some_seat. old.most (omega (arith, some_seat, few));
      deals = old.deals;
    } in (
      w,
      keeps,
      tt,
      record {
        moment = m;
        bounds = r.bounds;
        most = r.most;
        words = ap (λ (ws : List ℕ). slice_set ws 0 (slice_index ws 0)) r.words;
        home = r.home;
        legal = r.legal;
        room = r.room;
        few = r.few;
        fresh = r.fresh;
        each = each_set (IsView m) table.views id w own (λ j u other here. r.each j u here);
        placed = λ n early. placed_set table.views id v w n at (mapped_number (λ seat. held seat.number m.history) (λ seat. refl) n v.seats) (r.placed n early);
        numbers = omega (arith, sum-set (λ (u : View). length u.seats) table.views id v w at, r.numbers, few);
        tickets = omega (arith, sum-set (λ (u : View). waits u.stage) table.views id v w at, r.tickets);
        serving = omega (arith, sum-set (λ (u : View). serves u.stage) table.views id v w at, r.serving);
        counted = omega (arith, sum-set (λ (u : View). made_by u.seats) table.views id v w at, r.counted, made);
      },
      (
        m.history,
        record {
          board = ap (λ (ws : List ℕ). slice_index ws 0) r.words;
          sees = refl;
          legal = r.legal;
          seats = held_begin m.history m.dealt m.owner id v.seats old.seats;
          told = old.told;
          out = stage_out m id v.stage old.stage;
          room = λ some_seat. omega (arith, r.room, old.most some_seat);
          limit = omega (arith, r.room, r.most, r.bounds.0);
        },
      ),
    )
