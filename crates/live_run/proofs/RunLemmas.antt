-- The history of a hall that was run, where its first seat alone has made changes.
use Rattle.std.proofs.Common.{◌≡◌, ℕ, suc, ◌+◌, ◌-◌, ◌<◌, ◌≢◌, List, [], length, get_or, sym, ap, subst, ◌∙◌, arith}
use Rattle.std.specs.Prelude.{min, reverse, Option, None, Some, IfSome, IfNone, Result, Ok, Err, IfOk, IfErr, vec_len}
use Rattle.std.specs.List.{All, slice_index_or, sum_by}
use Rattle.std.proofs.lemmas.List.{length-map, length-reverse, reverse-reverse}
use Rattle.std.proofs.lemmas.List.Elements.{All-get_or}
use Rattle.std.proofs.lemmas.Result.{IfOk-weaker}
use Rattle.desk_core.specs.declared.call.Call.{Call}
use Rattle.desk_core.specs.declared.entry.Entry.{Entry}
use Rattle.desk_core.specs.declared.refusal.Refusal.{Refusal}
use Rattle.desk_core.specs.declared.reply.Reply.{Reply}
use Rattle.desk_core.specs.Desk.{State}
use Rattle.desk_core.specs.Legal.{IsLegal}
use Rattle.desk_core.specs.Past.{past}
use Rattle.desk_core.specs.Watch.{IsOlder}
use Rattle.hall.specs.Seats.{HallState, SeatState, IsSeenIn, new_seats, own_calls}
use Rattle.hall.proofs.LookingLemmas.{older_on}
use Rattle.hall.specs.CarriedOut.{replied}
use Rattle.hall.specs.TakenBack.{NothingTakenBack}
use Rattle.server.specs.Setup.{AreSetUp, SetUpState}
use Rattle.server.proofs.OwnLemmas.{made, alone, own_alone, own_setup}
use Rattle.live_run.specs.declared.loops_fault.LoopsFault.{LoopsFault}
use Rattle.live_run.specs.declared.loops_fault.LoopsFault.TheVariants as faults
use Rattle.live_server.specs.Loop.{EventServer}
use Rattle.live_run.specs.declared.ran.Ran.{Ran}
use Rattle.live_run.specs.declared.ran.SessionPlaces.{SessionPlaces}
use Rattle.live_run.specs.declared.seated_loop.SeatedLoop.{SeatedLoop}
use Rattle.live_run.specs.declared.seating.Seating.{Seating}
use Rattle.live_run.specs.declared.watchdog_loop.WatchdogLoop.{WatchdogLoop}
use Rattle.live_run.specs.Loops.{SeatsHaveLooked, SeatsAfterRun}
use Rattle.live_run.specs.Seating.{IsSeatingOf, seats_of}
use Rattle.live_run.specs.WholeRun.{HasRun, HasRunLoops, IsClosedBy, IsLaterFault, NoMemory, SeatsMissing, loops_fault}
use Rattle.live_run.proofs.LoopLemmas.{made_nothing}
use Rattle.live_run.proofs.WatchLemmas.{watched_begins}

-- the journal of a hall that was run, where its first seat alone has made changes
journal_is : (hall : HallState) (loops count : ℕ) (seats : List SeatState) (journal : List Entry) (calls : List (Option Call)) (results : List (Result Reply Refusal))
    → HasRunLoops hall loops seats (past journal) → hall.seats ≡ suc count → AreSetUp calls results (new_seats hall.table hall.most (suc count)) seats
    → journal ≡ replied 0 calls results
journal_is hall loops count seats journal calls results ran some set =
    let nobody : SeatState = record { table = hall.table; most = hall.most; number = 0; seen = [] } in
    let own : (set.first.number ≡ 0) × (own_calls set.first ≡ past (replied 0 calls results)) = own_setup hall calls results set.first (set.met nobody) in
    let first : get_or ran.after 0 nobody ≡ set.first = ran.looked.first nobody ∙ ap (λ (all : List SeatState). get_or all 0 nobody) set.others in
    let seen : IsSeenIn (past journal) set.first = subst (IsSeenIn (past journal)) first (All-get_or (IsSeenIn (past journal)) ran.after 0 nobody (omega (arith, ran.all, some)) ran.seen) in
    let many : length (past journal) ≡ made set.first = ran.counted ∙ (made_nothing loops seats ran.after ran.looked ∙ alone hall count seats set.first set.others) in
    sym (reverse-reverse journal) ∙ (ap reverse (own_alone (past journal) set.first seen many ∙ own.1) ∙ reverse-reverse (replied 0 calls results))

pub journal_set : (hall : HallState) (loops : ℕ) (seats : List SeatState) (journal : List Entry) (calls : List (Option Call)) (results : List (Result Reply Refusal))
    → HasRunLoops hall loops seats (past journal) → loops < length seats → AreSetUp calls results (new_seats hall.table hall.most hall.seats) seats → journal ≡ replied 0 calls results
journal_set hall loops seats journal calls results ran few set =
    let some : hall.seats ≡ suc (hall.seats - 1) = omega (arith, few, ran.looked.seats, ran.all) in
    journal_is hall loops (hall.seats - 1) seats journal calls results ran some (subst (λ (n : ℕ). AreSetUp calls results (new_seats hall.table hall.most n) seats) some set)

-- loops that were seated on these seats have looked by them
pub looked_by : {P K : Type 0} (servers : List EventServer) (loops : ℕ) (seats places after : List SeatState) (seating : Seating P K)
    → loops ≡ length servers → vec_len seating.loops ≡ length seating.loops.items → places ≡ seats → IsSeatingOf servers places seating
    → SeatsHaveLooked (vec_len seating.loops) (seats_of seating) after → SeatsHaveLooked loops seats after
looked_by {P} {K} servers loops seats places after seating count len same are looked =
    let server : SeatedLoop P K → EventServer = λ seated. seated.server in
    let many : vec_len seating.loops ≡ loops = len ∙ (sym (length-map seating.loops.items server) ∙ (ap length are.servers ∙ sym count)) in
    subst (λ (some : List SeatState). SeatsHaveLooked loops some after) (are.seats ∙ same) (subst (λ (n : ℕ). SeatsHaveLooked n (seats_of seating) after) many looked)

-- a hall that loops have run, once it is closed
pub has_run : (hall own : HallState) (loops : ℕ) (seats after : List SeatState) (journal : List Entry) → own ≡ hall → SeatsHaveLooked loops seats after → length after ≡ own.seats
    → IsLegal (past journal) → All (IsSeenIn (past journal)) after → length journal ≡ sum_by made after → HasRunLoops hall loops seats (past journal)
has_run hall own loops seats after journal same looked all legal seen counted = record {
  after = after;
  looked = looked;
  all = all ∙ ap (λ (one : HallState). one.seats) same;
  legal = legal;
  seen = seen;
  counted = length-reverse journal ∙ counted;
}

-- the same beside sessions
pub served_by : {P K : Type 0} (kept : Option ℕ) (watching watching_now : Option WatchdogLoop) (most : ℕ) (names : List (List ℕ)) (servers : List EventServer) (loops : ℕ) (seats places after : List SeatState) (seating : Seating P K)
    → loops ≡ length servers → vec_len seating.loops ≡ length seating.loops.items → places ≡ seats → IsSeatingOf servers places seating
    → SeatsAfterRun kept watching watching_now most names (vec_len seating.loops) (vec_len seating.control) (seats_of seating) after → SeatsAfterRun kept watching watching_now most names loops (vec_len seating.control) seats after
served_by {P} {K} kept watching watching_now most names servers loops seats places after seating count len same are served =
    let server : SeatedLoop P K → EventServer = λ seated. seated.server in
    let many : vec_len seating.loops ≡ loops = len ∙ (sym (length-map seating.loops.items server) ∙ (ap length are.servers ∙ sym count)) in
    subst (λ (some : List SeatState). SeatsAfterRun kept watching watching_now most names loops (vec_len seating.control) some after) (are.seats ∙ same)
    (subst (λ (n : ℕ). SeatsAfterRun kept watching watching_now most names n (vec_len seating.control) (seats_of seating) after) many served)

-- how many seats the control place has
pub controlled_by : {P K : Type 0} (servers : List EventServer) (loops : ℕ) (seats places : List SeatState) (seating : Seating P K) → loops ≡ length servers → places ≡ seats → IsSeatingOf servers places seating
    → vec_len seating.control ≡ min 32 (length seats - (1 + loops))
controlled_by servers loops seats places seating count same are =
    are.control_are ∙ (ap (λ (n : ℕ). min 32 (length places - (1 + n))) (sym count) ∙ ap (λ (all : List SeatState). min 32 (length all - (1 + loops))) same)

-- its history goes on from what the first seat had seen
goes_on_by : (kept : Option ℕ) (watching watching_now : Option WatchdogLoop) (most : ℕ) (names : List (List ℕ)) (loops controlled : ℕ) (seats after : List SeatState) (history : List Entry) (other : SeatState)
    → loops < length seats → SeatsAfterRun kept watching watching_now most names loops controlled seats after → All (IsSeenIn history) after → IsOlder (slice_index_or seats 0 other).seen history
goes_on_by kept watching watching_now most names loops controlled seats after history other some served seen =
    let now : SeatState = slice_index_or after 0 other in
    let is : IsSeenIn history now = All-get_or (IsSeenIn history) after 0 other (omega (arith, some, served.seats)) seen in
    older_on (slice_index_or seats 0 other).seen now.seen history (watched_begins kept watching watching_now (slice_index_or seats 0 other) now (served.first other)) is.begins

pub has_run_beside : (kept : Option ℕ) (places places_now : SessionPlaces) (hall own : HallState) (loops controlled : ℕ) (seats after : List SeatState) (desk : State) → own ≡ hall → loops < length seats → controlled ≡ min 32 (length seats - (1 + loops)) → SeatsAfterRun kept places.watchdog places_now.watchdog own.most own.names loops controlled seats after → length after ≡ own.seats
    → IsLegal (past desk.journal) → All (IsSeenIn (past desk.journal)) after → NothingTakenBack desk after → length desk.journal ≡ sum_by made after → HasRun kept places places_now hall loops seats desk
has_run_beside kept places places_now hall own loops controlled seats after desk same some split served all legal seen taken_back counted = record {
  controlled = controlled;
  controlled_are = split;
  after = after;
  served = subst (λ (one : HallState). SeatsAfterRun kept places.watchdog places_now.watchdog one.most one.names loops controlled seats after) same served;
  all = all ∙ ap (λ (one : HallState). one.seats) same;
  legal = legal;
  seen = seen;
  taken_back = taken_back;
  goes_on = λ other. goes_on_by kept places.watchdog places_now.watchdog own.most own.names loops controlled seats after (past desk.journal) other some served seen;
  counted = counted;
}

-- it has as many entries as the seats had made before
pub entries_are : (hall : HallState) (loops : ℕ) (seats : List SeatState) (journal : List Entry) → HasRunLoops hall loops seats (past journal) → length journal ≡ sum_by made seats
entries_are hall loops seats journal ran = sym (length-reverse journal) ∙ (ran.counted ∙ made_nothing loops seats ran.after ran.looked)

-- what holds of a value of which two facts hold
by_both : {X E : Type 0} (result : Result X E) (P Q R : X → Type 0) → ((x : X) → P x → Q x → R x) → IfOk result P → IfOk result Q → IfOk result R
by_both (Ok x) P Q R together first second = together x first second
by_both (Err fault) P Q R together first second = tt

abbrev result_of : (X : Type 0) → LoopsFault → Result X LoopsFault
result_of X fault = Err fault

abbrev made_of : {X : Type 0} → X → Result X LoopsFault
made_of x = Ok x

-- why loops that have no seats did not run the hall: the fault of their number, or memory ran out
pub refused_by : (X Y : Type 0) (loops : ℕ) (seats places : List SeatState) (fault : LoopsFault) → places ≡ seats
    → IfSome (loops_fault loops (length places)) (λ other. result_of X fault ≡ Err other) → IfSome (loops_fault loops (length seats)) (λ other. result_of Y fault ≡ Err other)
refused_by X Y loops seats places fault same refused =
    same_fault (loops_fault loops (length seats)) (subst (λ (all : List SeatState). IfSome (loops_fault loops (length all)) (λ other. result_of X fault ≡ Err other)) same refused)
  where
    same_fault : (found : Option LoopsFault) → IfSome found (λ other. result_of X fault ≡ Err other) → IfSome found (λ other. result_of Y fault ≡ Err other)
    same_fault None met = tt
    same_fault (Some other) met = cc

pub later_by_memory : (loops : ℕ) (made : SetUpState) (places : List SeatState) (fault : LoopsFault) → places ≡ made.seats → IfNone (loops_fault loops (length places)) (fault ≡ faults.NoMemory)
    → IfNone (loops_fault loops (length made.seats)) (IsLaterFault made fault)
later_by_memory loops made places fault same is =
    later (loops_fault loops (length made.seats)) (subst (λ (all : List SeatState). IfNone (loops_fault loops (length all)) (fault ≡ faults.NoMemory)) same is)
  where
    later : (found : Option LoopsFault) → IfNone found (fault ≡ faults.NoMemory) → IfNone found (IsLaterFault made fault)
    later None is = subst (IsLaterFault made) (sym is) NoMemory
    later (Some other) is = tt

-- loops that got their seats were not refused
pub not_refused : {X Y : Type 0} (loops : ℕ) (seats places : List SeatState) (seating : X) (result : Result Y LoopsFault) → places ≡ seats
    → IfSome (loops_fault loops (length places)) (λ fault. made_of seating ≡ Err fault) → IfSome (loops_fault loops (length seats)) (λ fault. result ≡ Err fault)
not_refused {X} {Y} loops seats places seating result same refused =
    none (loops_fault loops (length seats)) (subst (λ (all : List SeatState). IfSome (loops_fault loops (length all)) (λ fault. made_of seating ≡ Err fault)) same refused)
  where
    none : (found : Option LoopsFault) → IfSome found (λ fault. made_of seating ≡ Err fault) → IfSome found (λ fault. result ≡ Err fault)
    none None met = tt
    none (Some fault) met = let no : ⊥ = cc in absurd no

-- what is said of a hall once it is closed with the seats that came back
module _ {P K : Type 0} (result : Result (Ran P K) LoopsFault) (made : SetUpState) (own : HallState) (after : List SeatState) (same : own ≡ made.hall) where
  pub closed_late : (found : Option LoopsFault) → length after ≡ length made.seats → IfErr result (λ fault. (fault ≡ faults.SeatsMissing) × (length after ≢ own.seats)) → IfNone found (IfErr result (IsLaterFault made))
  closed_late found back missing = later found result missing
    where
      later : (found : Option LoopsFault) (result : Result (Ran P K) LoopsFault) → IfErr result (λ fault. (fault ≡ faults.SeatsMissing) × (length after ≢ own.seats)) → IfNone found (IfErr result (IsLaterFault made))
      later None (Ok ran) missing = tt
      later None (Err fault) missing = subst (IsLaterFault made) (sym missing.0) (SeatsMissing (λ all. missing.1 (back ∙ (all ∙ ap (λ (one : HallState). one.seats) (sym same)))))
      later (Some other) result missing = tt

  pub closed_most : IfOk result (λ ran. IsClosedBy own after ran.desk) → IfOk result (λ ran. ran.desk.max_entries ≡ made.hall.most)
  closed_most = IfOk-weaker result (λ ran. IsClosedBy own after ran.desk) (λ ran. ran.desk.max_entries ≡ made.hall.most) (λ ran closed. closed.most ∙ ap (λ (one : HallState). one.most) same)

  pub closed_alone : (loops : ℕ) → SeatsHaveLooked loops made.seats after → IfOk result (λ ran. IsClosedBy own after ran.desk)
      → IfOk result (λ ran. HasRunLoops made.hall loops made.seats (past ran.desk.journal))
  closed_alone loops looked =
      IfOk-weaker result (λ ran. IsClosedBy own after ran.desk) (λ ran. HasRunLoops made.hall loops made.seats (past ran.desk.journal))
      (λ ran closed. has_run made.hall own loops made.seats after ran.desk.journal same looked closed.all closed.legal closed.seen closed.counted)

  pub closed_entries : (loops : ℕ) → IfOk result (λ ran. HasRunLoops made.hall loops made.seats (past ran.desk.journal)) → IfOk result (λ ran. length ran.desk.journal ≡ sum_by (λ seat. length (own_calls seat)) made.seats)
  closed_entries loops =
      IfOk-weaker result (λ ran. HasRunLoops made.hall loops made.seats (past ran.desk.journal)) (λ ran. length ran.desk.journal ≡ sum_by (λ seat. length (own_calls seat)) made.seats)
      (λ ran alone. entries_are made.hall loops made.seats ran.desk.journal alone)

  pub closed_setup : (loops : ℕ) → loops < length made.seats → IfOk result (λ ran. HasRunLoops made.hall loops made.seats (past ran.desk.journal))
      → IfOk result (λ ran. (calls : List (Option Call)) → AreSetUp calls made.results (new_seats made.hall.table made.hall.most made.hall.seats) made.seats → ran.desk.journal ≡ replied 0 calls made.results)
  closed_setup loops few =
      IfOk-weaker result (λ ran. HasRunLoops made.hall loops made.seats (past ran.desk.journal))
      (λ ran. (calls : List (Option Call)) → AreSetUp calls made.results (new_seats made.hall.table made.hall.most made.hall.seats) made.seats → ran.desk.journal ≡ replied 0 calls made.results)
      (λ ran alone calls set. journal_set made.hall loops made.seats ran.desk.journal calls made.results alone few set)

  pub closed_ran : (kept : Option ℕ) (places back : SessionPlaces) (loops controlled : ℕ) → loops < length made.seats → controlled ≡ min 32 (length made.seats - (1 + loops))
      → SeatsAfterRun kept places.watchdog back.watchdog own.most own.names loops controlled made.seats after → IfOk result (λ ran. ran.places ≡ back) → IfOk result (λ ran. IsClosedBy own after ran.desk)
      → IfOk result (λ ran. HasRun kept places ran.places made.hall loops made.seats ran.desk)
  closed_ran kept places back loops controlled few split served =
      by_both result (λ ran. ran.places ≡ back) (λ ran. IsClosedBy own after ran.desk) (λ ran. HasRun kept places ran.places made.hall loops made.seats ran.desk)
      (λ ran are closed. subst (λ (now : SessionPlaces). HasRun kept places now made.hall loops made.seats ran.desk) (sym are)
      (has_run_beside kept places back made.hall own loops controlled made.seats after ran.desk same few split served closed.all closed.legal closed.seen closed.taken_back closed.counted))
