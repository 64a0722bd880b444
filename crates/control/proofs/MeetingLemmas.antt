-- Requests that were met.
use Rattle.std.proofs.Common.{ℕ, ◌≡◌, ◌≢◌, ◌⊎◌, ⊎_elim, List, ap, subst, sym, ◌∙◌, true≢false}
use Rattle.std.proofs.lemmas.Option.{none-some}
use Rattle.std.specs.Prelude.{Option, None, Some, IfSome, IsSome, Result, refl}
use Rattle.desk_core.specs.declared.call.Call.{Call}
use Rattle.desk_core.specs.declared.entry.Entry.{Entry}
use Rattle.desk_core.specs.declared.refusal.Refusal.{Refusal}
use Rattle.desk_core.specs.declared.reply.Reply.{Reply}
use Rattle.desk_core.specs.Board.{board_of}
use Rattle.desk_core.specs.Status.{status_map}
use Rattle.health_wire.specs.declared.serving.Serving.{Serving}
use Rattle.script.specs.declared.expectation.Expectation.{Expectation}
use Rattle.script.specs.declared.line.Line.{Line}
use Rattle.script.specs.declared.line.Line.TheVariants.{Register, Retire, Order, Check, Open, Step, Board}
use Rattle.script.specs.declared.question.Question.{Question}
use Rattle.script.specs.Change.{line_change}
use Rattle.script.specs.TextLines.{without_cr}
use Rattle.control.specs.declared.answer.Answer.{Answer}
use Rattle.control.specs.declared.answer.Answer.TheVariants as answers
use Rattle.control.specs.declared.request.Request.{Request}
use Rattle.control.specs.declared.request.Request.TheVariants as requests
use Rattle.control.specs.declared.rights.Rights.{Rights}
use Rattle.control.specs.declared.rights.Rights.TheVariants.{All, Reports}
use Rattle.control.specs.declared.stats.Stats.{Stats}
use Rattle.control.specs.declared.recollection.Recollection.{Recollection}
use Rattle.script.specs.declared.question.Question.TheVariants.{Entry as EntryAt}
use Rattle.control.specs.Known.{Asked, IsOfNone, IsToldOf, Known}
use Rattle.control.specs.Known.Asked.{OfPlace}
use Rattle.control.specs.Known.Known.{Recalls}
use Rattle.control.specs.Known.IsToldOf.{TellsWhy, TellsStatus, TellsEntry}
use Rattle.control.specs.Request.{IsOffered, IsRequest}
use Rattle.control.specs.Rights.{IsAllowed, unknown_line}
use Rattle.control.specs.Meeting.{IsMet, IsLineMet, IsSaid}
use Rattle.control.specs.Meeting.IsLineMet.{IsTooLong, IsSkipped, IsNoText, IsNoRequest, IsUnread, IsDenied, IsAsked}
use Rattle.control.specs.Text.{IsTold, short_text}
use Rattle.control.specs.Text.IsTold.{AsItIs, CutShort}
use Rattle.control.specs.Meeting.IsMet.{Changes, Expects, Checks, Packs, Lists, Tells, Answers, AnswersNone, Stops, Starves, StarvesTold}

pub checked : {S : Type 0} (names : List (List ℕ)) (seen : S → List Entry) (looks : S → S → Type 0)
    (changes : S → S → Option Call → Result Reply Refusal → Type 0) (expects : S → S → Expectation → Result Reply Refusal → Type 0) (tells : S → Stats → Type 0) (knows : S → Asked → Known → Type 0) (stops : S → S → Type 0) (old new : S) (line : Line) (name : List ℕ) (status : Option Serving)
    → line ≡ Check name → looks old new → status ≡ status_map names (seen new) name → IsMet names seen looks changes expects tells knows stops old new (requests.Line line) (answers.Checked status)
checked names seen looks changes expects tells knows stops old new line name status is looked told =
    subst (λ l. IsMet names seen looks changes expects tells knows stops old new (requests.Line l) (answers.Checked status)) (sym is)
    (subst (λ s. IsMet names seen looks changes expects tells knows stops old new (requests.Line (Check name)) (answers.Checked s)) (sym told) (Checks name looked))

pub packed : {S : Type 0} (names : List (List ℕ)) (seen : S → List Entry) (looks : S → S → Type 0)
    (changes : S → S → Option Call → Result Reply Refusal → Type 0) (expects : S → S → Expectation → Result Reply Refusal → Type 0) (tells : S → Stats → Type 0) (knows : S → Asked → Known → Type 0) (stops : S → S → Type 0) (old new : S) (line : Line) (word : ℕ)
    → line ≡ Board → looks old new → word ≡ board_of (seen new) → IsMet names seen looks changes expects tells knows stops old new (requests.Line line) (answers.Board word)
packed names seen looks changes expects tells knows stops old new line word is looked told =
    subst (λ l. IsMet names seen looks changes expects tells knows stops old new (requests.Line l) (answers.Board word)) (sym is)
    (subst (λ w. IsMet names seen looks changes expects tells knows stops old new (requests.Line Board) (answers.Board w)) (sym told) (Packs looked))

changed_by : {S : Type 0} (names : List (List ℕ)) (seen : S → List Entry) (looks : S → S → Type 0)
    (changes : S → S → Option Call → Result Reply Refusal → Type 0) (expects : S → S → Expectation → Result Reply Refusal → Type 0) (tells : S → Stats → Type 0) (knows : S → Asked → Known → Type 0) (stops : S → S → Type 0) (old new : S) (line : Line) (call : Option (Option Call)) (result : Result Reply Refusal)
    → line_change names line ≡ call → IsSome call → IfSome call (λ one. changes old new one result) → IsMet names seen looks changes expects tells knows stops old new (requests.Line line) (answers.Changed result)
changed_by names seen looks changes expects tells knows stops old new line (Some call) result asks some made = Changes line call result asks made
changed_by names seen looks changes expects tells knows stops old new line None result asks some made = absurd (true≢false (sym some))

pub changed : {S : Type 0} (names : List (List ℕ)) (seen : S → List Entry) (looks : S → S → Type 0)
    (changes : S → S → Option Call → Result Reply Refusal → Type 0) (expects : S → S → Expectation → Result Reply Refusal → Type 0) (tells : S → Stats → Type 0) (knows : S → Asked → Known → Type 0) (stops : S → S → Type 0) (old new : S) (line : Line) (result : Result Reply Refusal)
    → IsSome (line_change names line) → IfSome (line_change names line) (λ one. changes old new one result) → IsMet names seen looks changes expects tells knows stops old new (requests.Line line) (answers.Changed result)
changed names seen looks changes expects tells knows stops old new line result some made = changed_by names seen looks changes expects tells knows stops old new line (line_change names line) result refl some made

pub expected : {S : Type 0} (names : List (List ℕ)) (seen : S → List Entry) (looks : S → S → Type 0)
    (changes : S → S → Option Call → Result Reply Refusal → Type 0) (expects : S → S → Expectation → Result Reply Refusal → Type 0) (tells : S → Stats → Type 0) (knows : S → Asked → Known → Type 0) (stops : S → S → Type 0) (old new : S) (request : Request)
    (expectation : Expectation) (result : Result Reply Refusal) → request ≡ requests.Expect expectation → expects old new expectation result
    → IsMet names seen looks changes expects tells knows stops old new request (answers.Expected result)
expected names seen looks changes expects tells knows stops old new request expectation result is told =
    subst (λ r. IsMet names seen looks changes expects tells knows stops old new r (answers.Expected result)) (sym is) (Expects expectation result told)

pub listed : {S : Type 0} (names : List (List ℕ)) (seen : S → List Entry) (looks : S → S → Type 0)
    (changes : S → S → Option Call → Result Reply Refusal → Type 0) (expects : S → S → Expectation → Result Reply Refusal → Type 0) (tells : S → Stats → Type 0) (knows : S → Asked → Known → Type 0) (stops : S → S → Type 0) (old new : S) (request : Request) (word : ℕ)
    → request ≡ requests.List → looks old new → word ≡ board_of (seen new) → IsMet names seen looks changes expects tells knows stops old new request (answers.Listed word)
listed names seen looks changes expects tells knows stops old new request word is looked told =
    subst (λ r. IsMet names seen looks changes expects tells knows stops old new r (answers.Listed word)) (sym is)
    (subst (λ w. IsMet names seen looks changes expects tells knows stops old new requests.List (answers.Listed w)) (sym told) (Lists looked))

pub told : {S : Type 0} (names : List (List ℕ)) (seen : S → List Entry) (looks : S → S → Type 0)
    (changes : S → S → Option Call → Result Reply Refusal → Type 0) (expects : S → S → Expectation → Result Reply Refusal → Type 0) (tells : S → Stats → Type 0) (knows : S → Asked → Known → Type 0) (stops : S → S → Type 0) (old new : S) (request : Request) (stats : Stats)
    → request ≡ requests.Stats → looks old new → tells new stats → IsMet names seen looks changes expects tells knows stops old new request (answers.Told stats)
told names seen looks changes expects tells knows stops old new request stats is looked counts = subst (λ r. IsMet names seen looks changes expects tells knows stops old new r (answers.Told stats)) (sym is) (Tells stats looked counts)

pub asked : {S : Type 0} (names : List (List ℕ)) (seen : S → List Entry) (looks : S → S → Type 0)
    (changes : S → S → Option Call → Result Reply Refusal → Type 0) (expects : S → S → Expectation → Result Reply Refusal → Type 0) (tells : S → Stats → Type 0) (knows : S → Asked → Known → Type 0) (stops : S → S → Type 0) (old new : S) (question told : Question) (answer : Answer)
    → question ≡ told → looks old new → IsToldOf names (knows new) told answer → IsMet names seen looks changes expects tells knows stops old new (requests.Ask question) answer
asked names seen looks changes expects tells knows stops old new question told answer is looked known =
    subst (λ q. IsMet names seen looks changes expects tells knows stops old new (requests.Ask q) answer) (sym is) (Answers told answer looked known)

-- what is told of what is known is told of what is known otherwise too
pub told_too : (names : List (List ℕ)) {knows other : Asked → Known → Type 0} → ((asked : Asked) (known : Known) → knows asked known → other asked known)
    → (question : Question) (answer : Answer) → IsToldOf names knows question answer → IsToldOf names other question answer
told_too names also question answer (TellsWhy name slot standing at known) = TellsWhy name slot standing at (also _ _ known)
told_too names also question answer (TellsStatus name slot description at known) = TellsStatus name slot description at (also _ _ known)
told_too names also question answer (TellsEntry recollection known) = TellsEntry recollection (also _ _ known)

-- the entry at a place that was asked about
pub entry_told : (names : List (List ℕ)) (knows : Asked → Known → Type 0) (place : ℕ) (recollection : Recollection) → recollection.place ≡ place
    → knows (OfPlace place) (Recalls recollection.recall) → IsToldOf names knows (EntryAt place) (answers.Recalled recollection)
entry_told names knows place recollection is known =
    subst (λ at. IsToldOf names knows (EntryAt at) (answers.Recalled recollection)) is
    (TellsEntry recollection (subst (λ at. knows (OfPlace at) (Recalls recollection.recall)) (sym is) known))

pub asked_none : {S : Type 0} (names : List (List ℕ)) (seen : S → List Entry) (looks : S → S → Type 0)
    (changes : S → S → Option Call → Result Reply Refusal → Type 0) (expects : S → S → Expectation → Result Reply Refusal → Type 0) (tells : S → Stats → Type 0) (knows : S → Asked → Known → Type 0) (stops : S → S → Type 0) (old new : S) (question told : Question)
    → question ≡ told → new ≡ old → IsOfNone names told → IsMet names seen looks changes expects tells knows stops old new (requests.Ask question) answers.NotFound
asked_none names seen looks changes expects tells knows stops old new question told is same none =
    subst (λ q. IsMet names seen looks changes expects tells knows stops old new (requests.Ask q) answers.NotFound) (sym is) (AnswersNone told none same)

pub stopped : {S : Type 0} (names : List (List ℕ)) (seen : S → List Entry) (looks : S → S → Type 0)
    (changes : S → S → Option Call → Result Reply Refusal → Type 0) (expects : S → S → Expectation → Result Reply Refusal → Type 0) (tells : S → Stats → Type 0) (knows : S → Asked → Known → Type 0) (stops : S → S → Type 0) (old new : S) (request : Request) → request ≡ requests.Stop → stops old new
    → IsMet names seen looks changes expects tells knows stops old new request answers.Stopping
stopped names seen looks changes expects tells knows stops old new request is told = subst (λ r. IsMet names seen looks changes expects tells knows stops old new r answers.Stopping) (sym is) (Stops told)

-- a line of a session that is no Check and not the board asks for a change
pub asks_change : (names : List (List ℕ)) (line : Line) → IsOffered line → ((name : List ℕ) → ¬ line ≡ Check name) → ¬ line ≡ Board → IsSome (line_change names line)
asks_change names (Register name rule) offered check board = refl
asks_change names (Retire name) offered check board = refl
asks_change names (Order order) offered check board = refl
asks_change names (Check name) offered check board = absurd (check name refl)
asks_change names (Open name) offered check board = absurd offered
asks_change names (Step k) offered check board = absurd offered
asks_change names Board offered check board = absurd (board refl)

-- a request whose answer was long is met as well where there is no memory for that
long_met : {S : Type 0} (names : List (List ℕ)) (seen : S → List Entry) (looks : S → S → Type 0)
    (changes : S → S → Option Call → Result Reply Refusal → Type 0) (expects : S → S → Expectation → Result Reply Refusal → Type 0) (tells : S → Stats → Type 0) (knows : S → Asked → Known → Type 0) (stops : S → S → Type 0) (old new : S) (request : Request) (answer : Answer)
    → IsMet names seen looks changes expects tells knows stops old new request answer → short_text answer ≡ None → IsMet names seen looks changes expects tells knows stops old new request answers.OutOfMemory
long_met names seen looks changes expects tells knows stops old new request answer (Changes line call result asks made) long = absurd (none-some _ (sym long))
long_met names seen looks changes expects tells knows stops old new request answer (Expects expectation result told) long = absurd (none-some _ (sym long))
long_met names seen looks changes expects tells knows stops old new request answer (Checks name looked) long = absurd (none-some _ (sym long))
long_met names seen looks changes expects tells knows stops old new request answer (Packs looked) long = StarvesTold request looked
long_met names seen looks changes expects tells knows stops old new request answer (Lists looked) long = StarvesTold request looked
long_met names seen looks changes expects tells knows stops old new request answer (Tells stats looked counts) long = StarvesTold request looked
long_met names seen looks changes expects tells knows stops old new request answer (Answers question _ looked told) long = StarvesTold request looked
long_met names seen looks changes expects tells knows stops old new request answer (AnswersNone question none same) long = absurd (none-some _ (sym long))
long_met names seen looks changes expects tells knows stops old new request answer (Stops same) long = absurd (none-some _ (sym long))
long_met names seen looks changes expects tells knows stops old new request answer (Starves _ same) long = absurd (none-some _ (sym long))
long_met names seen looks changes expects tells knows stops old new request answer (StarvesTold _ looked) long = absurd (none-some _ (sym long))

-- a line that is no request is answered by a text that is kept
unknown_is_short : (rights : Rights) (answer : Answer) → answer ≡ unknown_line rights → short_text answer ≡ None → ⊥
unknown_is_short All answer told none = none-some _ (sym none ∙ ap short_text told)
unknown_is_short Reports answer told none = none-some _ (sym none ∙ ap short_text told)

cut_short : {S : Type 0} (rights : Rights) (names : List (List ℕ)) (seen : S → List Entry) (looks : S → S → Type 0)
    (changes : S → S → Option Call → Result Reply Refusal → Type 0) (expects : S → S → Expectation → Result Reply Refusal → Type 0) (tells : S → Stats → Type 0) (knows : S → Asked → Known → Type 0) (stops : S → S → Type 0) (old new : S) (line : List ℕ) (answer : Answer)
    → IsLineMet rights names seen looks changes expects tells knows stops old new line answer → short_text answer ≡ None → answer ≢ answers.Skipped → IsLineMet rights names seen looks changes expects tells knows stops old new line answers.OutOfMemory
cut_short rights names seen looks changes expects tells knows stops old new line answer (IsTooLong long same) none skipped = absurd (none-some _ (sym none))
cut_short rights names seen looks changes expects tells knows stops old new line answer (IsSkipped short blank same) none skipped = absurd (skipped refl)
cut_short rights names seen looks changes expects tells knows stops old new line _ (IsNoText short wrong answer told same) none skipped = absurd (unknown_is_short rights answer told none)
cut_short rights names seen looks changes expects tells knows stops old new line _ (IsNoRequest said wrong answer told same) none skipped = absurd (unknown_is_short rights answer told none)
cut_short rights names seen looks changes expects tells knows stops old new line answer (IsUnread said same) none skipped = absurd (none-some _ (sym none))
cut_short rights names seen looks changes expects tells knows stops old new line answer (IsDenied said request asks denied same) none skipped = absurd (none-some _ (sym none))
cut_short rights names seen looks changes expects tells knows stops old new line answer (IsAsked said request _ asks allowed met) none skipped =
    IsAsked said request answers.OutOfMemory asks allowed (long_met names seen looks changes expects tells knows stops old new request answer met none)

-- what is told of an answer meets its line
pub still_met : {S : Type 0} (rights : Rights) (names : List (List ℕ)) (seen : S → List Entry) (looks : S → S → Type 0)
    (changes : S → S → Option Call → Result Reply Refusal → Type 0) (expects : S → S → Expectation → Result Reply Refusal → Type 0) (tells : S → Stats → Type 0) (knows : S → Asked → Known → Type 0) (stops : S → S → Type 0) (old new : S) (line : List ℕ) (answer told : Answer)
    → IsLineMet rights names seen looks changes expects tells knows stops old new line answer → IsTold answer told → IsLineMet rights names seen looks changes expects tells knows stops old new line told
still_met rights names seen looks changes expects tells knows stops old new line answer told met AsItIs = met
still_met rights names seen looks changes expects tells knows stops old new line answer told met (CutShort none skipped) = cut_short rights names seen looks changes expects tells knows stops old new line answer met none skipped

-- a line that says what may be asked for, or what may not
pub met_or_denied : {S : Type 0} (rights : Rights) (names : List (List ℕ)) (seen : S → List Entry) (looks : S → S → Type 0)
    (changes : S → S → Option Call → Result Reply Refusal → Type 0) (expects : S → S → Expectation → Result Reply Refusal → Type 0) (tells : S → Stats → Type 0) (knows : S → Asked → Known → Type 0) (stops : S → S → Type 0) (old new : S) (line : List ℕ) (request : Request) (answer : Answer)
    → IsSaid line → IsRequest names (without_cr line) request
    → (IsAllowed rights request × IsMet names seen looks changes expects tells knows stops old new request answer) ⊎ ((¬ IsAllowed rights request) × (answer ≡ answers.NotAllowed) × (new ≡ old))
    → IsLineMet rights names seen looks changes expects tells knows stops old new line answer
met_or_denied rights names seen looks changes expects tells knows stops old new line request answer said asks = ⊎_elim
    (λ met. IsAsked said request answer asks met.0 met.1)
    (λ denied. subst (λ a. IsLineMet rights names seen looks changes expects tells knows stops old new line a) (sym denied.1) (IsDenied said request asks denied.0 denied.2))
