-- The seats of a hall before and after loops have served by them.
use Rattle.std.proofs.Common.{◌≡◌, ℕ, zero, suc, ◌+◌, ◌-◌, ◌<◌, ◌≤◌, List, [], ◌∷◌, ◌++◌, map, take, drop, length, get_or, sym, refl, ap, subst, ◌∙◌, arith, length-append, ⊎_elim}
use Rattle.std.specs.List.{All, sum_by}
use Rattle.std.proofs.lemmas.Bool.{cases_lt}
use Rattle.std.proofs.lemmas.List.{append-nil, drop_all, take_all, length-map, get_or-map, get_or_append_left, get_or-append_right}
use Rattle.std.proofs.lemmas.List.Elements.{All-get_or}
use Rattle.std.proofs.lemmas.List.Sums.{sum_by-cons}
use Rattle.hall.specs.Seats.{HallState, SeatState, IsOf, own_calls}
use Rattle.hall.specs.Looking.{HasLooked}
use Rattle.hall.proofs.CarryingOut.{looked_ours}
use Rattle.live_run.specs.declared.seated_loop.SeatedLoop.{SeatedLoop}
use Rattle.live_server.specs.Loop.{EventServer}
use Rattle.control_server.specs.Seats.{MetLines, SeatsHaveMet}
use Rattle.control_server.proofs.SeatLemmas.{met_line_ours}
use Rattle.control.specs.declared.rights.Rights.TheVariants.{All as AllRights, Reports}
use Rattle.control.specs.declared.terms.Terms.{Terms}
use Rattle.live_run.specs.Sitting.{terms_by}
use Rattle.live_run.specs.Watched.{IsWatchedBy}
use Rattle.live_run.specs.declared.watchdog_loop.WatchdogLoop.{WatchdogLoop}
use Rattle.std.specs.Prelude.{Option}
use Rattle.live_run.proofs.WatchLemmas.{watched_ours}
use Rattle.live_run.specs.Loops.{EndedEmpty, AllLookedAndEnded, AllEndedEmpty, SeatsHaveLooked, SeatsAfterRun}

-- an element of the middle one of three parts
middle : {X Y : Type 0} (v : X → Y) (first rest : List Y) (xs : List X) (i : ℕ) (d : X) (e : Y) → length first ≡ 1 → i < length xs
    → get_or (first ++ (map v xs ++ rest)) (1 + i) e ≡ v (get_or xs i d)
middle v first rest xs i d e one below =
    get_or-append_right first (map v xs ++ rest) 1 (1 + i) e one (omega arith)
    ∙ (ap (λ (n : ℕ). get_or (map v xs ++ rest) n e) (omega arith)
    ∙ (get_or_append_left (map v xs) rest e i (omega (arith, length-map xs v, below)) ∙ get_or-map v xs i d e below))

-- an element behind it
behind : {X Y : Type 0} (v : X → Y) (first rest : List Y) (xs : List X) (i : ℕ) (e : Y) → length first ≡ 1 → length xs < i
    → get_or (first ++ (map v xs ++ rest)) i e ≡ get_or rest (i - 1 - length xs) e
behind v first rest xs i e one past =
    get_or-append_right first (map v xs ++ rest) 1 i e one (omega (arith, past))
    ∙ get_or-append_right (map v xs) rest (length xs) (i - 1) e (length-map xs v) (omega (arith, past))

-- how long the parts are together
long : {X Y : Type 0} (v : X → Y) (first rest : List Y) (xs : List X) → length (first ++ (map v xs ++ rest)) ≡ length first + (length xs + length rest)
long v first rest xs = omega (arith, length-append first (map v xs ++ rest), length-append (map v xs) rest, length-map xs v)

-- the loops' seats have looked
loops_looked : {P K : Type 0} (first first' rest rest' : List SeatState) (old new : List (SeatedLoop P K)) → length first ≡ 1 → length first' ≡ 1 → length new ≡ length old → AllLookedAndEnded old new
    → (place : ℕ) (other : SeatState) → place < length old
    → HasLooked (get_or (first ++ (map (λ seated. seated.seat) old ++ rest)) (1 + place) other) (get_or (first' ++ (map (λ seated. seated.seat) new ++ rest')) (1 + place) other)
loops_looked first first' rest rest' [] new one one' same served place other below = absurd (omega (arith, below))
loops_looked {P} {K} first first' rest rest' (seated ∷ old) new one one' same served place other below =
    let seat : SeatedLoop P K → SeatState = λ one. one.seat in
    rw (middle seat first rest (seated ∷ old) place seated other one below, middle seat first' rest' new place seated other one' (omega (arith, same, below)))
    (served place seated below).looked

-- where loops have served, the seats have looked
pub seats_looked : {P K : Type 0} (first rest : List SeatState) (old new : List (SeatedLoop P K)) (loops : ℕ) → length first ≡ 1 → length old ≡ loops → length new ≡ length old → AllLookedAndEnded old new
    → SeatsHaveLooked loops (first ++ (map (λ seated. seated.seat) old ++ rest)) (first ++ (map (λ seated. seated.seat) new ++ rest))
seats_looked {P} {K} first rest old new loops one count same served =
    let seat : SeatedLoop P K → SeatState = λ one. one.seat in record {
      seats = omega (arith, long seat first rest old, long seat first rest new, same);
      first = λ other. get_or_append_left first (map seat new ++ rest) other 0 (omega (arith, one)) ∙ sym (get_or_append_left first (map seat old ++ rest) other 0 (omega (arith, one)));
      looked = λ place other least most.
          let at : 1 + (place - 1) ≡ place = omega (arith, least) in
          subst (λ (n : ℕ). HasLooked (get_or (first ++ (map seat old ++ rest)) n other) (get_or (first ++ (map seat new ++ rest)) n other)) at
          (loops_looked first first rest rest old new one one same served (place - 1) other (omega (arith, least, most, count)));
      spare = λ place other past.
          behind seat first rest new place other one (omega (arith, past, count, same))
          ∙ (ap (λ (n : ℕ). get_or rest (place - 1 - n) other) same ∙ sym (behind seat first rest old place other one (omega (arith, past, count))));
    }

-- where nobody held sessions, the seats behind the loops' are as they were
pub seats_looked_by : {P K : Type 0} (first first' control control' report report' : List SeatState) (old new : List (SeatedLoop P K)) (loops : ℕ) → length first ≡ 1 → length old ≡ loops
    → length new ≡ length old → AllLookedAndEnded old new → first' ≡ first → control' ≡ control → report' ≡ report
    → SeatsHaveLooked loops (first ++ (map (λ seated. seated.seat) old ++ (control ++ report))) (first' ++ (map (λ seated. seated.seat) new ++ (control' ++ report')))
seats_looked_by {P} {K} first first' control control' report report' old new loops one count same served stays still quiet =
    let seat : SeatedLoop P K → SeatState = λ one. one.seat in
    subst (λ (f : List SeatState). SeatsHaveLooked loops (first ++ (map seat old ++ (control ++ report))) (f ++ (map seat new ++ (control' ++ report')))) (sym stays)
    (subst (λ (c : List SeatState). SeatsHaveLooked loops (first ++ (map seat old ++ (control ++ report))) (first ++ (map seat new ++ (c ++ report')))) (sym still)
    (subst (λ (r : List SeatState). SeatsHaveLooked loops (first ++ (map seat old ++ (control ++ report))) (first ++ (map seat new ++ (control ++ r)))) (sym quiet)
    (seats_looked first (control ++ report) old new loops one count same served)))

-- the only seat of a list that is as it was
pub one_stays : (old new : List SeatState) → length old ≡ 1 → length new ≡ length old → ((other : SeatState) → get_or new 0 other ≡ get_or old 0 other) → new ≡ old
one_stays [] new one same first = absurd (omega (arith, one))
one_stays (seat ∷ x ∷ xs) new one same first = absurd (omega (arith, one))
one_stays (seat ∷ []) [] one same first = absurd (omega (arith, same))
one_stays (seat ∷ []) (now ∷ []) one same first = ap (λ (s : SeatState). s ∷ []) (first seat)
one_stays (seat ∷ []) (now ∷ x ∷ xs) one same first = absurd (omega (arith, same))

-- a seat of the first of two parts, and one of the second
in_first : (kept : Option ℕ) (terms : Terms) (names : List (List ℕ)) (control control' report report' : List SeatState) (k : ℕ) (other : SeatState) → SeatsHaveMet kept terms names control control' → k < length control
    → MetLines kept terms names (get_or (control ++ report) k other) (get_or (control' ++ report') k other)
in_first kept terms names control control' report report' k other met below =
    rw (get_or_append_left control report other k below, get_or_append_left control' report' other k (omega (arith, below, met.count))) (met.each k other below)

in_second : (kept : Option ℕ) (terms mine : Terms) (names : List (List ℕ)) (control control' report report' : List SeatState) (k : ℕ) (other : SeatState) → SeatsHaveMet kept mine names control control'
    → SeatsHaveMet kept terms names report report' → length control ≤ k → k < length control + length report → MetLines kept terms names (get_or (control ++ report) k other) (get_or (control' ++ report') k other)
in_second kept terms mine names control control' report report' k other first met past below =
    rw (get_or-append_right control report (length control) k other refl past, get_or-append_right control' report' (length control) k other first.count past)
    (met.each (k - length control) other (omega (arith, past, below)))

-- where sessions were held beside loops, the loops' seats have looked, and lines were met by those behind them
pub seats_served : {P K : Type 0} (kept : Option ℕ) (watching watching_now : Option WatchdogLoop) (most : ℕ) (names : List (List ℕ)) (first first' control control' report report' : List SeatState)
    (old new : List (SeatedLoop P K)) (loops controlled : ℕ) → length first ≡ 1 → length first' ≡ length first
    → ((other : SeatState) → IsWatchedBy kept watching watching_now (get_or first 0 other) (get_or first' 0 other))
    → length old ≡ loops → length new ≡ length old → length control ≡ controlled → AllLookedAndEnded old new
    → SeatsHaveMet kept (terms_by AllRights most) names control control' → SeatsHaveMet kept (terms_by Reports most) names report report'
    → SeatsAfterRun kept watching watching_now most names loops controlled (first ++ (map (λ seated. seated.seat) old ++ (control ++ report)))
    (first' ++ (map (λ seated. seated.seat) new ++ (control' ++ report')))
seats_served {P} {K} kept watching watching_now most names first first' control control' report report' old new loops controlled one one' watched count same split served met reported =
    let seat : SeatedLoop P K → SeatState = λ one. one.seat in
    let rest : List SeatState = control ++ report in
    let rest' : List SeatState = control' ++ report' in
    let lens : length rest' ≡ length rest = omega (arith, length-append control report, length-append control' report', met.count, reported.count) in
    let at : (place : ℕ) (other : SeatState) → loops < place → get_or (first ++ (map seat old ++ rest)) place other ≡ get_or rest (place - 1 - loops) other =
    λ place other past. behind seat first rest old place other one (omega (arith, past, count)) ∙ ap (λ (n : ℕ). get_or rest (place - 1 - n) other) count in
    let at' : (place : ℕ) (other : SeatState) → loops < place → get_or (first' ++ (map seat new ++ rest')) place other ≡ get_or rest' (place - 1 - loops) other =
    λ place other past. behind seat first' rest' new place other (one' ∙ one) (omega (arith, past, count, same)) ∙ ap (λ (n : ℕ). get_or rest' (place - 1 - n) other) (same ∙ count) in
    let all : length (first ++ (map seat old ++ rest)) ≡ length first + (length old + length rest) = long seat first rest old in
    record {
      seats = omega (arith, all, long seat first' rest' new, same, lens, one');
      first = λ other.
          rw (get_or_append_left first (map seat old ++ rest) other 0 (omega (arith, one)), get_or_append_left first' (map seat new ++ rest') other 0 (omega (arith, one, one')))
          (watched other);
      looked = λ place other least most_of.
          let here : 1 + (place - 1) ≡ place = omega (arith, least) in
          subst (λ (n : ℕ). HasLooked (get_or (first ++ (map seat old ++ rest)) n other) (get_or (first' ++ (map seat new ++ rest')) n other)) here
          (loops_looked first first' rest rest' old new one (one' ∙ one) same served (place - 1) other (omega (arith, least, most_of, count)));
      sessions = λ place other past within below.
          rw (at place other past, at' place other past) (in_first kept (terms_by AllRights most) names control control' report report' (place - 1 - loops) other met (omega (arith, past, within, split)));
      reports = λ place other past below.
          let behind_loops : loops < place = omega (arith, past) in
          rw (at place other behind_loops, at' place other behind_loops)
          (in_second kept (terms_by Reports most) (terms_by AllRights most) names control control' report report' (place - 1 - loops) other met reported (omega (arith, past, split))
          (omega (arith, past, below, all, one, count, length-append control report)));
    }

-- the server of a loop that has served
each_served : {P K : Type 0} (old new : List (SeatedLoop P K)) → length new ≡ length old → AllLookedAndEnded old new → (place : ℕ) (other : EventServer) → place < length old
    → EndedEmpty (get_or (map (λ seated. seated.server) old) place other) (get_or (map (λ seated. seated.server) new) place other)
each_served [] new same served place other below = absurd (omega (arith, below))
each_served {P} {K} (seated ∷ old) new same served place other below =
    let server : SeatedLoop P K → EventServer = λ one. one.server in
    rw (get_or-map server (seated ∷ old) place seated other below, get_or-map server new place seated other (omega (arith, same, below)))
    (served place seated below).server

-- and their servers have served
pub servers_served : {P K : Type 0} (old new : List (SeatedLoop P K)) → length new ≡ length old → AllLookedAndEnded old new
    → AllEndedEmpty (map (λ seated. seated.server) old) (map (λ seated. seated.server) new)
servers_served {P} {K} old new same served =
    let server : SeatedLoop P K → EventServer = λ seated. seated.server in record {
      count = length-map new server ∙ (same ∙ sym (length-map old server));
      each = λ place other below. each_served old new same served place other (omega (arith, length-map old server, below));
    }

-- what is said of each seat by what it keeps when it looks
each_place : (P : SeatState → SeatState → Type 0) → ((seat : SeatState) → P seat seat) → ((old new : SeatState) → HasLooked old new → P old new)
    → (loops : ℕ) (old new : List SeatState) → SeatsHaveLooked loops old new → (place : ℕ) (other : SeatState) → P (get_or old place other) (get_or new place other)
each_place P stays looks loops old new served zero other = subst (λ (seat : SeatState). P (get_or old 0 other) seat) (sym (served.first other)) (stays (get_or old 0 other))
each_place P stays looks loops old new served (suc place) other =
    ⊎_elim
    (λ past. subst (λ (seat : SeatState). P (get_or old (suc place) other) seat) (sym (served.spare (suc place) other past)) (stays (get_or old (suc place) other)))
    (λ most. looks _ _ (served.looked (suc place) other (omega arith) most))
    (cases_lt loops (suc place))

-- a sum over elements that each give the same
sum_stays : {X : Type 0} (f : X → ℕ) (xs ys : List X) → length ys ≡ length xs → ((i : ℕ) (d : X) → i < length xs → f (get_or ys i d) ≡ f (get_or xs i d)) → sum_by f ys ≡ sum_by f xs
sum_stays f [] [] len each = refl
sum_stays f [] (y ∷ ys) len each = absurd (omega (arith, len))
sum_stays f (x ∷ xs) [] len each = absurd (omega (arith, len))
sum_stays f (x ∷ xs) (y ∷ ys) len each =
    omega (
      arith,
      sum_by-cons f x xs,
      sum_by-cons f y ys,
      each 0 x (omega arith),
      sum_stays f xs ys (omega (arith, len)) (λ i d below. each (suc i) d (omega (arith, below))),
    )

-- loops make nothing
pub made_nothing : (loops : ℕ) (old new : List SeatState) → SeatsHaveLooked loops old new → sum_by (λ seat. length (own_calls seat)) new ≡ sum_by (λ seat. length (own_calls seat)) old
made_nothing loops old new served =
    sum_stays (λ seat. length (own_calls seat)) old new served.seats
    (λ place other below. each_place (λ a b. length (own_calls b) ≡ length (own_calls a)) (λ seat. refl) (λ a b looked. ap length looked.own) loops old new served place other)

-- and all seats stay the hall's
pub served_ours : (hall : HallState) (loops : ℕ) (old new : List SeatState) → SeatsHaveLooked loops old new → All (IsOf hall) old → All (IsOf hall) new
served_ours hall loops old new served ours place other below =
    each_place (λ a b. IsOf hall a → IsOf hall b) (λ seat is. is) (λ a b looked is. looked_ours hall a b is looked) loops old new served place other
    (All-get_or (IsOf hall) old place other (omega (arith, served.seats, below)) ours)

-- the loops' seats are among the hall's
pub loops_ours : {P K : Type 0} (hall : HallState) (first rest : List SeatState) (loops : List (SeatedLoop P K)) → length first ≡ 1
    → All (IsOf hall) (first ++ (map (λ seated. seated.seat) loops ++ rest)) → All (λ seated. IsOf hall seated.seat) loops
loops_ours {P} {K} hall first rest loops one ours place other below =
    let seat : SeatedLoop P K → SeatState = λ one. one.seat in
    subst (IsOf hall) (middle seat first rest loops place other other.seat one below)
    (All-get_or (IsOf hall) (first ++ (map seat loops ++ rest)) (1 + place) other.seat (omega (arith, long seat first rest loops, one, below)) ours)

-- all seats stay the hall's beside sessions too
ours_at : (kept : Option ℕ) (watching watching_now : Option WatchdogLoop) (most : ℕ) (names : List (List ℕ)) (hall : HallState) (loops controlled : ℕ) (old new : List SeatState)
    → SeatsAfterRun kept watching watching_now most names loops controlled old new → (place : ℕ) (other : SeatState)
    → place < length old → IsOf hall (get_or old place other) → IsOf hall (get_or new place other)
ours_at kept watching watching_now most names hall loops controlled old new served zero other below was =
    watched_ours kept watching watching_now hall (get_or old 0 other) (get_or new 0 other) (served.first other) was
ours_at kept watching watching_now most names hall loops controlled old new served (suc place) other below was =
    ⊎_elim
    (λ past. ⊎_elim
    (λ far. met_line_ours kept (terms_by Reports most) names hall (get_or old (suc place) other) (get_or new (suc place) other) (served.reports (suc place) other far below) was)
    (λ near. met_line_ours kept (terms_by AllRights most) names hall (get_or old (suc place) other) (get_or new (suc place) other) (served.sessions (suc place) other past near below) was)
    (cases_lt (loops + controlled) (suc place)))
    (λ most_of. looked_ours hall (get_or old (suc place) other) (get_or new (suc place) other) was (served.looked (suc place) other (omega arith) most_of))
    (cases_lt loops (suc place))

pub all_ours : (kept : Option ℕ) (watching watching_now : Option WatchdogLoop) (most : ℕ) (names : List (List ℕ)) (hall : HallState) (loops controlled : ℕ) (old new : List SeatState)
    → SeatsAfterRun kept watching watching_now most names loops controlled old new → All (IsOf hall) old → All (IsOf hall) new
all_ours kept watching watching_now most names hall loops controlled old new served ours place other below =
    let within : place < length old = omega (arith, served.seats, below) in
    ours_at kept watching watching_now most names hall loops controlled old new served place other within (All-get_or (IsOf hall) old place other within ours)

-- the first seat is the hall's
pub first_ours : {X : Type 0} (seat : X → SeatState) (hall : HallState) (first rest : List SeatState) (loops : List X) → All (IsOf hall) (first ++ (map seat loops ++ rest)) → All (IsOf hall) first
first_ours seat hall first rest loops ours place other below =
    subst (IsOf hall) (get_or_append_left first (map seat loops ++ rest) other place below)
    (All-get_or (IsOf hall) (first ++ (map seat loops ++ rest)) place other (omega (arith, below, length-append first (map seat loops ++ rest))) ours)

-- the seats that sessions use are the hall's
spare_ours : {X : Type 0} (seat : X → SeatState) (hall : HallState) (first rest : List SeatState) (loops : List X) → length first ≡ 1
    → All (IsOf hall) (first ++ (map seat loops ++ rest)) → All (IsOf hall) rest
spare_ours seat hall first rest loops one ours place other below =
    subst (IsOf hall)
    (behind seat first rest loops (1 + length loops + place) other one (omega arith) ∙ ap (λ (n : ℕ). get_or rest n other) (omega arith))
    (All-get_or (IsOf hall) (first ++ (map seat loops ++ rest)) (1 + length loops + place) other (omega (arith, long seat first rest loops, one, below)) ours)

pub control_ours : {X : Type 0} (seat : X → SeatState) (hall : HallState) (first control report : List SeatState) (loops : List X) → length first ≡ 1
    → All (IsOf hall) (first ++ (map seat loops ++ (control ++ report))) → All (IsOf hall) control
control_ours seat hall first control report loops one ours place other below =
    subst (IsOf hall) (get_or_append_left control report other place below)
    (All-get_or (IsOf hall) (control ++ report) place other (omega (arith, below, length-append control report)) (spare_ours seat hall first (control ++ report) loops one ours))

pub report_ours : {X : Type 0} (seat : X → SeatState) (hall : HallState) (first control report : List SeatState) (loops : List X) → length first ≡ 1
    → All (IsOf hall) (first ++ (map seat loops ++ (control ++ report))) → All (IsOf hall) report
report_ours seat hall first control report loops one ours place other below =
    subst (IsOf hall) (get_or-append_right control report (length control) (length control + place) other refl (omega arith) ∙ ap (λ (n : ℕ). get_or report n other) (omega arith))
    (All-get_or (IsOf hall) (control ++ report) (length control + place) other (omega (arith, below, length-append control report)) (spare_ours seat hall first (control ++ report) loops one ours))

-- a list whose slice was changed as a whole
pub whole_again : {X : Type 0} (xs ys : List X) (len : ℕ) → length ys ≡ length xs → len ≡ length xs → take len (ys ++ drop (length ys) xs) ≡ ys
whole_again xs ys len same is =
    ap (λ (rest : List _). take len (ys ++ rest)) (drop_all (length ys) xs (omega (arith, same)))
    ∙ (ap (λ (all : List _). take len all) (append-nil ys) ∙ take_all len ys (omega (arith, same, is)))
