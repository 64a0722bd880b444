-- What a closed hall tells of a setup that its first seat alone has made: the changes were made as by one thread.
use Rattle.std.proofs.Common.{◌≡◌, ℕ, suc, ◌-◌, ◌≤◌, Option, List, [], ◌∷◌, ◌++◌, length, Result, true, false, Bool, refl, sym, ap, subst, ◌∙◌, arith}
use Rattle.std.specs.Prelude.{cond, ◌==◌}
use Rattle.std.specs.List.{All, sum_by}
use Rattle.std.proofs.lemmas.List.{append-nil, length-reverse}
use Rattle.std.proofs.lemmas.List.Elements.{All-head, All-tail, filter_passes}
use Rattle.desk_core.specs.declared.call.Call.{Call}
use Rattle.desk_core.specs.declared.entry.Entry.{Entry}
use Rattle.desk_core.specs.declared.refusal.Refusal.{Refusal}
use Rattle.desk_core.specs.declared.reply.Reply.{Reply}
use Rattle.desk_core.specs.Legal.{IsLegal}
use Rattle.desk_core.specs.Mutation.{AreAnswered, Ends, Then, IsAnswered, Taken, NotListed, BadRule, Full, NoMemory, NotStored}
use Rattle.desk_core.specs.Past.{past}
use Rattle.desk_core.specs.Seats.{calls_by}
use Rattle.desk_core.specs.Watch.{IsOlder}
use Rattle.hall.specs.Seats.{SeatState, IsCarriedOut, IsSeenIn, own_calls, new_seats}
use Rattle.hall.specs.CarriedOut.{HasCarriedOut, replied}
use Rattle.server.specs.Setup.{AreSetUp, SetUpState}
use Rattle.live_run.specs.WholeRun.{HasRunLoops}
use Rattle.live_run.proofs.RunLemmas.{journal_set}
use Rattle.running.specs.Run.{AreMadeAlone}

-- all entries are one seat's
abbrev AreOwn : ℕ → List Entry → Type 0
AreOwn seat entries = All (λ entry. (entry.seat == seat) ≡ true) entries

kept_one : {X : Type 0} (b : Bool) (x : X) (some xs : List X) → b ≡ true → some ≡ xs → cond b (x ∷ some) some ≡ x ∷ xs
kept_one true x some xs is same = ap (λ (all : List _). x ∷ all) same
kept_one false x some xs is same = let no : ⊥ = cc in absurd no

-- then they are its own entries
all_own : (seat : ℕ) (entries : List Entry) → AreOwn seat entries → calls_by entries seat ≡ entries
all_own seat [] own = refl
all_own seat (entry ∷ older) own =
    kept_one (entry.seat == seat) entry (calls_by older seat) older (All-head (λ (e : Entry). (e.seat == seat) ≡ true) entry older own)
    (all_own seat older (All-tail (λ (e : Entry). (e.seat == seat) ≡ true) entry older own))

-- so are those before them
all_behind : {X : Type 0} (P : X → Type 0) (xs ys : List X) → All P (xs ++ ys) → All P ys
all_behind P [] ys all = all
all_behind P (x ∷ xs) ys all = all_behind P xs ys (All-tail P x (xs ++ ys) all)

older_own : (seat : ℕ) (older entries : List Entry) → IsOlder older entries → AreOwn seat entries → AreOwn seat older
older_own seat older entries begins own = all_behind (λ (e : Entry). (e.seat == seat) ≡ true) begins.newer older (subst (AreOwn seat) begins.is own)

before_own : (most seat : ℕ) (before after : List Entry) (call : Option Call) (result : Result Reply Refusal) → IsAnswered most seat before after call result
    → AreOwn seat after → AreOwn seat before
before_own most seat before after _ _ (Taken call reply lawful room reply_is is) own =
    older_own seat before after (record { newer = _ ∷ []; is = is }) own
before_own most seat before after _ _ (NotListed same) own = subst (AreOwn seat) same own
before_own most seat before after _ _ (BadRule call unlawful same) own = subst (AreOwn seat) same own
before_own most seat before after _ _ (Full call lawful full same) own = subst (AreOwn seat) same own
before_own most seat before after _ _ (NoMemory call lawful room same) own = subst (AreOwn seat) same own
before_own most seat before after _ _ (NotStored call lawful room same) own = subst (AreOwn seat) same own

-- changes of a seat that has seen its own entries alone are changes of one thread
one_thread : (most seat : ℕ) (old new : SeatState) (calls : List (Option Call)) (results : List (Result Reply Refusal)) → old.most ≡ most → old.number ≡ seat
    → AreAnswered IsCarriedOut old new calls results → AreOwn seat new.seen → AreAnswered (IsAnswered most seat) old.seen new.seen calls results × AreOwn seat old.seen
one_thread most seat old new calls results most_is seat_is (Ends state) own = (Ends old.seen, own)
one_thread most seat old new calls results most_is seat_is (Then old' between new' call result calls' results' met rest) own =
    let later : AreAnswered (IsAnswered most seat) between.seen new.seen calls' results' × AreOwn seat between.seen =
    one_thread most seat between new calls' results' (ap (λ (s : SeatState). s.most) met.same ∙ most_is) (ap (λ (s : SeatState). s.number) met.same ∙ seat_is) rest own in
    let answer : IsAnswered most seat met.before between.seen call result =
    subst (λ n. IsAnswered n seat met.before between.seen call result) most_is (subst (λ n. IsAnswered old.most n met.before between.seen call result) seat_is met.answer) in
    let before : AreOwn seat met.before = before_own most seat met.before between.seen call result answer later.1 in
    let first : AreOwn seat old.seen = older_own seat old.seen met.before met.begins before in
    let same : met.before ≡ old.seen =
    sym (all_own seat met.before before)
    ∙ (subst (λ n. calls_by met.before n ≡ calls_by old.seen n) seat_is met.own
    ∙ all_own seat old.seen first) in
    (Then old.seen between.seen new.seen call result calls' results' (subst (λ h. IsAnswered most seat h between.seen call result) same answer) later.0, first)

-- the history of a closed hall has the first seat's entries alone
alone_in : (made : SetUpState) (count : ℕ) (calls : List (Option Call)) (journal : List Entry) → made.hall.seats ≡ suc count
    → (set : AreSetUp calls made.results (new_seats made.hall.table made.hall.most (suc count)) made.seats) → All (IsSeenIn (past journal)) made.seats
    → journal ≡ replied 0 calls made.results → AreMadeAlone made.hall.most calls made.results
alone_in made count calls journal some set seen is =
    let nobody : SeatState = record { table = made.hall.table; most = made.hall.most; number = 0; seen = [] } in
    let met : HasCarriedOut nobody set.first calls made.results = set.met nobody in
    let number : set.first.number ≡ 0 = ap (λ (seat : SeatState). seat.number) met.same in
    let own : past journal ≡ own_calls set.first = ap past is ∙ sym (met.own ∙ append-nil (past (replied 0 calls made.results))) in
    let all : AreOwn 0 (past journal) =
    subst (AreOwn 0) (sym own)
    (subst (λ n. AreOwn n (own_calls set.first)) number (filter_passes (λ (e : Entry). e.seat == set.first.number) set.first.seen)) in
    let first : IsSeenIn (past journal) set.first = All-head (IsSeenIn (past journal)) set.first _ (subst (All (IsSeenIn (past journal))) set.others seen) in
    record {
      history = set.first.seen;
      made = (one_thread made.hall.most 0 nobody set.first calls made.results refl refl met.done (older_own 0 set.first.seen (past journal) first.begins all)).0;
    }

-- a hall that is closed tells so of the changes that set it up
pub made_alone : (calls : List (Option Call)) (made : SetUpState) (journal : List Entry) → 1 ≤ made.hall.seats → length made.seats ≡ made.hall.seats
    → AreSetUp calls made.results (new_seats made.hall.table made.hall.most made.hall.seats) made.seats → IsLegal (past journal)
    → All (IsSeenIn (past journal)) made.seats → length journal ≡ sum_by (λ seat. length (own_calls seat)) made.seats → AreMadeAlone made.hall.most calls made.results
made_alone calls made journal some whole set legal seen counted =
    let ran : HasRunLoops made.hall 0 made.seats (past journal) = record {
      after = made.seats;
      looked = record {
        seats = refl;
        first = λ other. refl;
        looked = λ place other low high. absurd (omega (arith, low, high));
        spare = λ place other behind. refl;
      };
      all = whole;
      legal = legal;
      seen = seen;
      counted = length-reverse journal ∙ counted;
    } in
    let is : journal ≡ replied 0 calls made.results = journal_set made.hall 0 made.seats journal calls made.results ran (omega (arith, some, whole)) set in
    let count : made.hall.seats ≡ suc (made.hall.seats - 1) = omega (arith, some) in
    alone_in made (made.hall.seats - 1) calls journal count (subst (λ (n : ℕ). AreSetUp calls made.results (new_seats made.hall.table made.hall.most n) made.seats) count set) seen is
