-- The seats of a crew before and after it has served: the workers', the lists' and the others, one list behind the other.
use Rattle.std.proofs.Common.{◌≡◌, ℕ, suc, ◌+◌, ◌-◌, ◌<◌, ◌≤◌, List, [], ◌∷◌, ◌++◌, map, length, get_or, sym, refl, ap, subst, ◌∙◌, arith, length-append, ⊎_elim}
use Rattle.std.specs.Prelude.{Vec, vec_len, Result, Option, is_ok, cond}
use Rattle.std.specs.Global.{Global}
use Rattle.std.specs.List.{All, sum_by, count_by}
use Rattle.std.specs.Vec.Iter.{into_iter_items}
use Rattle.std.proofs.lemmas.Bool.{cases_lt}
use Rattle.std.proofs.lemmas.List.{length-map, length-reverse, get_or-map, get_or_append_left, get_or-append_right}
use Rattle.std.proofs.lemmas.Simd.{map-map}
use Rattle.std.proofs.lemmas.List.Elements.{All-get_or, All-from_get_or}
use Rattle.std.proofs.lemmas.List.Sums.{sum_by-cons, sum_by-append}
use Rattle.desk_core.specs.declared.call.Call.{Call}
use Rattle.desk_core.specs.declared.entry.Entry.{Entry}
use Rattle.desk_core.specs.declared.order.Order.{Order}
use Rattle.desk_core.specs.declared.refusal.Refusal.{Refusal}
use Rattle.desk_core.specs.declared.reply.Reply.{Reply}
use Rattle.desk_core.specs.Order.{ordered}
use Rattle.desk_core.specs.Past.{past}
use Rattle.hall.specs.Seats.{HallState, SeatState, IsOf, IsCarriedOut, own_calls}
use Rattle.crew.specs.declared.command_run.Commands.{Commands}
use Rattle.crew.specs.declared.command_run.CommandRun.{CommandRun}
use Rattle.crew.specs.declared.staff.Staff.{Staff}
use Rattle.crew.specs.declared.worker.Worker.{Worker}
use Rattle.crew.specs.CommandRun.{HaveRun, IsEquipped, IsReady}
use Rattle.desk_core.specs.Mutation.{IsAnswered, Taken, NotListed, BadRule, Full, NoMemory, NotStored, AreAnswered, Ends, Then}
use Rattle.hall.specs.CarriedOut.{HasCarriedOut, replied}
use Rattle.hall.specs.Looking.{HasLooked}
use Rattle.crew.specs.Serve.{CrewHasServed, lists_in}
use Rattle.crew.specs.Staff.{IsEmptyFor, IsStaffOf, orders_of, seats_of}
use Rattle.crew.specs.Worker.{HaveLooked}
use Rattle.hall.proofs.CarryingOut.{are_ours, looked_ours}

-- how many changes a seat has made
abbrev made : SeatState → ℕ
made seat = length (own_calls seat)

-- a change with a reply has one entry
replied_one : (n most seat : ℕ) (before after : List Entry) (call : Option Call) (result : Result Reply Refusal) (calls : List (Option Call)) (results : List (Result Reply Refusal))
    → IsAnswered most seat before after call result → length (replied n (call ∷ calls) (result ∷ results)) ≡ (cond (is_ok result) 1 0) + length (replied n calls results)
replied_one n most seat before after _ _ calls results (Taken call reply lawful room reply_is is) = omega arith
replied_one n most seat before after _ _ calls results (NotListed same) = omega arith
replied_one n most seat before after _ _ calls results (BadRule call unlawful same) = omega arith
replied_one n most seat before after _ _ calls results (Full call lawful full same) = omega arith
replied_one n most seat before after _ _ calls results (NoMemory call lawful room same) = omega arith
replied_one n most seat before after _ _ calls results (NotStored call lawful room same) = omega arith

replies : (n : ℕ) (old new : SeatState) (calls : List (Option Call)) (results : List (Result Reply Refusal)) → AreAnswered IsCarriedOut old new calls results
    → length (replied n calls results) ≡ count_by is_ok results
replies n old new calls results (Ends seat) = refl
replies n old new calls results (Then old' between new' call result calls' results' met rest) =
    omega (
      arith,
      sum_by-cons (λ (one : Result Reply Refusal). cond (is_ok one) 1 0) result results',
      replied_one n old.most old.number met.before between.seen call result calls' results' met.answer,
      replies n between new calls' results' rest,
    )

-- a seat that met changes has made as many more as got a reply
made_more : (old new : SeatState) (calls : List (Option Call)) (results : List (Result Reply Refusal)) → HasCarriedOut old new calls results
    → made new ≡ made old + count_by is_ok results
made_more old new calls results has =
    let entries : List Entry = replied old.number calls results in
    omega (arith, ap length has.own, length-append (past entries) (own_calls old), length-reverse entries, replies old.number old new calls results has.done)

-- a sum over elements that each rise
sum_rises : {X : Type 0} (f g : X → ℕ) (xs ys : List X) → length ys ≡ length xs
    → ((i : ℕ) (d : X) → i < length xs → f (get_or ys i d) ≡ f (get_or xs i d) + g (get_or ys i d)) → sum_by f ys ≡ sum_by f xs + sum_by g ys
sum_rises f g [] [] len each = refl
sum_rises f g [] (y ∷ ys) len each = absurd (omega (arith, len))
sum_rises f g (x ∷ xs) [] len each = absurd (omega (arith, len))
sum_rises f g (x ∷ xs) (y ∷ ys) len each =
    omega (
      arith,
      sum_by-cons f x xs,
      sum_by-cons f y ys,
      sum_by-cons g y ys,
      each 0 x (omega arith),
      sum_rises f g xs ys (omega (arith, len)) (λ i d below. each (suc i) d (omega (arith, below))),
    )

-- a sum of nothing
sum_zero : {X : Type 0} (xs : List X) → sum_by (λ x. 0) xs ≡ 0
sum_zero [] = refl
sum_zero (x ∷ xs) = omega (arith, sum_by-cons (λ y. 0) x xs, sum_zero xs)

-- a sum over what is told of the elements
sum_map : {X Y : Type 0} (f : Y → ℕ) (v : X → Y) (xs : List X) → sum_by f (map v xs) ≡ sum_by (λ x. f (v x)) xs
sum_map f v [] = refl
sum_map f v (x ∷ xs) = omega (arith, sum_by-cons f (v x) (map v xs), sum_by-cons (λ y. f (v y)) x xs, sum_map f v xs)

-- an element of the first part
first_part : {X Y : Type 0} (v : X → Y) (xs : List X) (rest : List Y) (i : ℕ) (d : X) (e : Y) → i < length xs
    → get_or (map v xs ++ rest) i e ≡ v (get_or xs i d)
first_part v xs rest i d e below =
    get_or_append_left (map v xs) rest e i (omega (arith, length-map xs v, below)) ∙ get_or-map v xs i d e below

-- an element behind it
behind : {X Y : Type 0} (v : X → Y) (xs : List X) (rest : List Y) (n i : ℕ) (e : Y) → length xs ≡ n → n ≤ i
    → get_or (map v xs ++ rest) i e ≡ get_or rest (i - n) e
behind v xs rest n i e len past = get_or-append_right (map v xs) rest n i e (length-map xs v ∙ len) past

-- workers' seats have looked
workers_looked : {P : Type 0} (old new : List (Worker P)) (rest more : List SeatState) → length new ≡ length old → HaveLooked old new
    → (place : ℕ) (other : SeatState) → place < length old
    → HasLooked (get_or (map (λ worker. worker.seat) old ++ rest) place other) (get_or (map (λ worker. worker.seat) new ++ more) place other)
workers_looked [] new rest more len looked place other below = absurd (omega (arith, below))
workers_looked (worker ∷ old) new rest more len looked place other below =
    rw (first_part (λ w. w.seat) (worker ∷ old) rest place worker other below, first_part (λ w. w.seat) new more place worker other (omega (arith, len, below)))
    (looked place worker below)

-- so has each list's seat met what its orders ask for
lists_ran : {P : Type 0} (names : List (List ℕ)) (old new : List (CommandRun P)) (first last : List SeatState) (rest more : List SeatState) (n : ℕ) → length first ≡ n → length last ≡ n
    → length new ≡ length old → HaveRun names old new → (list : ℕ) (other : SeatState) → list < length old
    → HasCarriedOut (get_or (first ++ (map (λ run. run.seat) old ++ rest)) (n + list) other) (get_or (last ++ (map (λ run. run.seat) new ++ more)) (n + list) other)
    (map (ordered names) (get_or (map (λ run. run.commands.orders.items) old) list [])) (get_or (map (λ run. run.commands.results.items) new) list [])
lists_ran names [] new first last rest more n len len' same ran list other below = absurd (omega (arith, below))
lists_ran {P} names (run ∷ old) new first last rest more n len len' same ran list other below =
    let runs : List (CommandRun P) = run ∷ old in
    let here : list < length runs = below in
    let there : list < length new = omega (arith, same, below) in
    let shift : (n + list) - n ≡ list = omega arith in
    rw (
      get_or-append_right first (map (λ e. e.seat) runs ++ rest) n (n + list) other len (omega arith),
      get_or-append_right last (map (λ e. e.seat) new ++ more) n (n + list) other len' (omega arith),
      shift,
      first_part (λ e. e.seat) runs rest list run other here,
      first_part (λ e. e.seat) new more list run other there,
      get_or-map (λ e. e.commands.orders.items) runs list run [] here,
      get_or-map (λ e. e.commands.results.items) new list run [] there,
    )
    (ran list run here)

-- how long the parts are together
parts_long : {X Y Z : Type 0} (v : X → Z) (w : Y → Z) (xs : List X) (ys : List Y) (zs : List Z)
    → length (map v xs ++ (map w ys ++ zs)) ≡ length xs + (length ys + length zs)
parts_long v w xs ys zs = omega (arith, length-append (map v xs) (map w ys ++ zs), length-append (map w ys) zs, length-map xs v, length-map ys w)

-- a sum over the parts
parts_sum : {X Y Z : Type 0} (f : Z → ℕ) (v : X → Z) (w : Y → Z) (xs : List X) (ys : List Y) (zs : List Z)
    → sum_by f (map v xs ++ (map w ys ++ zs)) ≡ sum_by (λ x. f (v x)) xs + (sum_by (λ y. f (w y)) ys + sum_by f zs)
parts_sum f v w xs ys zs =
    omega (arith, sum_by-append f (map v xs) (map w ys ++ zs), sum_by-append f (map w ys) zs, sum_map f v xs, sum_map f w ys)

-- all parts together
pub has_served : {P : Type 0} (names : List (List ℕ)) (workers workers' : List (Worker P)) (runs runs' : List (CommandRun P)) (spare : List SeatState) (count : ℕ)
    → length workers ≡ count → length workers' ≡ length workers → length runs' ≡ length runs → HaveLooked workers workers' → HaveRun names runs runs'
    → CrewHasServed names count (map (λ run. run.commands.orders.items) runs) (map (λ run. run.commands.results.items) runs')
    (map (λ worker. worker.seat) workers ++ (map (λ run. run.seat) runs ++ spare)) (map (λ worker. worker.seat) workers' ++ (map (λ run. run.seat) runs' ++ spare))
has_served {P} names workers workers' runs runs' spare count len same same' looked ran =
    let worker_seat : Worker P → SeatState = λ worker. worker.seat in
    let run_seat : CommandRun P → SeatState = λ run. run.seat in
    let lists : length (map (λ (run : CommandRun P). run.commands.orders.items) runs) ≡ length runs = length-map runs (λ run. run.commands.orders.items) in
    let worked : length workers' ≡ count = same ∙ len in record {
      seats = omega (arith, parts_long worker_seat run_seat workers runs spare, parts_long worker_seat run_seat workers' runs' spare, same, same');
      answered = omega (arith, lists, length-map runs' (λ (run : CommandRun P). run.commands.results.items), same');
      looked = λ place other below. workers_looked workers workers' _ _ same looked place other (omega (arith, len, below));
      ran = λ list other below. lists_ran names runs runs' (map worker_seat workers) (map worker_seat workers') spare spare count
          (length-map workers worker_seat ∙ len) (length-map workers' worker_seat ∙ worked) same' ran list other (omega (arith, lists, below));
      spare = λ place other past.
          behind worker_seat workers' (map run_seat runs' ++ spare) count place other worked (omega (arith, past))
          ∙ (behind run_seat runs' spare (length runs) (place - count) other same' (omega (arith, lists, past))
          ∙ sym (behind worker_seat workers (map run_seat runs ++ spare) count place other len (omega (arith, past))
          ∙ behind run_seat runs spare (length runs) (place - count) other refl (omega (arith, lists, past))));
      made = omega (
        arith,
        parts_sum made worker_seat run_seat workers runs spare,
        parts_sum made worker_seat run_seat workers' runs' spare,
        sum_rises (λ (worker : Worker P). made worker.seat) (λ worker. 0) workers workers' same (λ i d below. omega (arith, ap length (looked i d below).own)),
        sum_zero workers',
        sum_rises (λ (run : CommandRun P). made run.seat) (λ run. count_by is_ok run.commands.results.items) runs runs' same'
            (λ i d below. made_more _ _ _ _ (ran i d below)),
        sum_map (count_by is_ok) (λ (run : CommandRun P). run.commands.results.items) runs',
      );
    }

-- one seat after it has served is the hall's if it was before
one_ours : (hall : HallState) (names : List (List ℕ)) (workers : ℕ) (lists : List (List Order)) (results : List (List (Result Reply Refusal))) (old new : List SeatState)
    → CrewHasServed names workers lists results old new → (place : ℕ) (d : SeatState) → IsOf hall (get_or old place d) → IsOf hall (get_or new place d)
one_ours hall names workers lists results old new served place d ours =
    ⊎_elim
    (λ below. looked_ours hall _ _ ours (served.looked place d below))
    (λ past. ⊎_elim
    (λ below. let list : ℕ = place - workers in let here : workers + list ≡ place = omega (arith, past) in
    are_ours hall _ _ _ _ ours (subst (λ n. HasCarriedOut (get_or old n d) (get_or new n d) (map (ordered names) (get_or lists list [])) (get_or results list [])) here
    (served.ran list d (omega (arith, past, below)))).done)
    (λ over. subst (IsOf hall) (sym (served.spare place d over)) ours)
    (cases_lt place (workers + length lists)))
    (cases_lt place workers)

-- all seats stay the hall's
pub served_ours : (hall : HallState) (names : List (List ℕ)) (workers : ℕ) (lists : List (List Order)) (results : List (List (Result Reply Refusal))) (old new : List SeatState)
    → CrewHasServed names workers lists results old new → All (IsOf hall) old → All (IsOf hall) new
served_ours hall names workers lists results old [] served ours = λ place d below. absurd (omega (arith, below))
served_ours hall names workers lists results old (seat ∷ new) served ours =
    All-from_get_or (IsOf hall) (seat ∷ new) seat
    (λ place below. one_ours hall names workers lists results old (seat ∷ new) served place seat (All-get_or (IsOf hall) old place seat (omega (arith, served.seats, below)) ours))

-- workers and command runs whose seats are among the hall's
pub workers_ours : {P : Type 0} (hall : HallState) (workers : List (Worker P)) (rest : List SeatState) → All (IsOf hall) (map (λ worker. worker.seat) workers ++ rest)
    → All (λ worker. IsOf hall worker.seat) workers
workers_ours {P} hall workers rest ours place other below =
    let seats : List SeatState = map (λ (worker : Worker P). worker.seat) workers in
    subst (IsOf hall) (first_part (λ worker. worker.seat) workers rest place other other.seat below)
    (All-get_or (IsOf hall) (seats ++ rest) place other.seat (omega (arith, length-append seats rest, length-map workers (λ (worker : Worker P). worker.seat), below)) ours)

pub runs_ready : {P : Type 0} (hall : HallState) (first : List SeatState) (runs : List (CommandRun P)) (rest : List SeatState)
    → All (IsOf hall) (first ++ (map (λ run. run.seat) runs ++ rest)) → All (λ run. IsEquipped run.commands) runs → All (IsReady hall) runs
runs_ready {P} hall first runs rest ours equipped place other below =
    let seats : List SeatState = map (λ (run : CommandRun P). run.seat) runs in
    let at : ℕ = length first + place in
    let there : at - length first ≡ place = omega arith in record {
      seat = subst (IsOf hall)
          (get_or-append_right first (seats ++ rest) (length first) at other.seat refl (omega arith)
          ∙ (ap (λ n. get_or (seats ++ rest) n other.seat) there ∙ first_part (λ run. run.seat) runs rest place other other.seat below))
          (All-get_or (IsOf hall) (first ++ (seats ++ rest)) at other.seat
          (omega (arith, length-append first (seats ++ rest), length-append seats rest, length-map runs (λ (run : CommandRun P). run.seat), below)) ours);
      commands = equipped place other below;
    }

-- a staff is made once each list has a seat
pub staff_made : {P : Type 0} (staff : Staff P) (count : ℕ) (orders : Vec (Vec Order Global) Global) (seats : List SeatState) (lists : List Commands)
    → seats_of staff ≡ seats → vec_len staff.workers ≡ count → map (λ run. run.commands) staff.runs.items ≡ lists → map (λ list. list.orders) lists ≡ orders.items
    → All IsEquipped lists → IsEmptyFor (length seats) (vec_len orders) staff.left → IsStaffOf count (lists_in orders) seats staff
staff_made {P} staff count orders seats lists seated manned given asked equipped left =
    let runs : List (CommandRun P) = staff.runs.items in
    let asks : map (λ (run : CommandRun P). run.commands.orders) runs ≡ orders.items =
    sym (map-map (λ (list : Commands). list.orders) (λ run. run.commands) runs) ∙ (ap (map (λ (list : Commands). list.orders)) given ∙ asked) in
    let long : length (seats_of staff) ≡ length staff.workers.items + (length runs + length (into_iter_items staff.spare)) =
    parts_long (λ (worker : Worker P). worker.seat) (λ (run : CommandRun P). run.seat) staff.workers.items runs (into_iter_items staff.spare) in
    let as_many : vec_len staff.runs ≡ vec_len orders =
    omega (arith, staff.runs.ok.0, orders.ok.0, ap length asks, length-map runs (λ (run : CommandRun P). run.commands.orders)) in record {
      seats = seated;
      workers = manned;
      lists = sym (map-map (λ (list : Vec Order Global). list.items) (λ run. run.commands.orders) runs) ∙ ap (map (λ list. list.items)) asks;
      memory = record {
        lists = λ place other below.
            subst IsEquipped (ap (λ xs. get_or xs place other.commands) (sym given) ∙ get_or-map (λ run. run.commands) runs place other other.commands below)
            (All-get_or IsEquipped lists place other.commands (omega (arith, ap length given, length-map runs (λ (run : CommandRun P). run.commands), below)) equipped);
        left = record {
          no_seats = left.no_seats;
          seats = omega (arith, left.seats, ap length seated, long, staff.workers.ok.0, staff.runs.ok.0, staff.spare.rest.ok.0);
          no_results = left.no_results;
          results = omega (arith, left.results, as_many);
          no_ends = left.no_ends;
        };
      };
    }

-- a staff that has run and given everything back
pub staff_served : {P : Type 0} (names : List (List ℕ)) (staff : Staff P) (workers' : List (Worker P)) (runs' : List (CommandRun P)) (seats : List SeatState)
    (results : List (Vec (Result Reply Refusal) Global)) → length workers' ≡ length staff.workers.items → length runs' ≡ length staff.runs.items
    → HaveLooked staff.workers.items workers' → HaveRun names staff.runs.items runs'
    → seats ≡ map (λ worker. worker.seat) workers' ++ (map (λ run. run.seat) runs' ++ into_iter_items staff.spare) → results ≡ map (λ run. run.commands.results) runs'
    → CrewHasServed names (vec_len staff.workers) (orders_of staff) (map (λ list. list.items) results) (seats_of staff) seats
staff_served {P} names staff workers' runs' seats results same same' looked ran home told =
    let answers : map (λ (list : Vec (Result Reply Refusal) Global). list.items) results ≡ map (λ (run : CommandRun P). run.commands.results.items) runs' =
    ap (map (λ list. list.items)) told ∙ map-map (λ list. list.items) (λ run. run.commands.results) runs' in
    rw (answers, home)
    (has_served names staff.workers.items workers' staff.runs.items runs' (into_iter_items staff.spare) (vec_len staff.workers) (sym staff.workers.ok.0) same same' looked ran)

-- a staff that was made of these seats for these lists has served
pub made_served : {P : Type 0} (names : List (List ℕ)) (staff : Staff P) (count : ℕ) (lists : List (List Order)) (results : List (List (Result Reply Refusal))) (old new : List SeatState)
    → IsStaffOf count lists old staff → CrewHasServed names (vec_len staff.workers) (orders_of staff) results (seats_of staff) new → CrewHasServed names count lists results old new
made_served names staff count lists results old new made served =
    subst (λ n. CrewHasServed names n lists results old new) made.workers
    (subst (λ asked. CrewHasServed names (vec_len staff.workers) asked results old new) made.lists
    (subst (λ seats. CrewHasServed names (vec_len staff.workers) (orders_of staff) results seats new) made.seats served))
