-- What lines that a seat met have made of its history.
use Rattle.std.proofs.Common.{◌≡◌, ◌⊎◌, inl, inr, ℕ, List, [], ◌∷◌, ◌++◌, ap, sym, refl, ◌∙◌, subst}
use Rattle.std.specs.Prelude.{Option, None, Some, Result, Ok, Err}
use Rattle.std.specs.Option.{option_map}
use Rattle.std.proofs.lemmas.Option.{none-some}
use Rattle.std.proofs.lemmas.List.{append_assoc, reverse-append}
use Rattle.desk_core.specs.declared.call.Call.{Call}
use Rattle.desk_core.specs.declared.call.Call.TheVariants as calls
use Rattle.desk_core.specs.declared.call.Finding.{Finding}
use Rattle.desk_core.specs.declared.order.Order.TheVariants.{Observe, Set, Shutdown, Resume}
use Rattle.desk_core.specs.Catalogue.{slot_of}
use Rattle.desk_core.specs.declared.entry.Entry.{Entry}
use Rattle.desk_core.specs.declared.refusal.Refusal.{Refusal}
use Rattle.desk_core.specs.declared.reply.Reply.{Reply}
use Rattle.desk_core.specs.Mutation.{Ends as Done, Then as Next}
use Rattle.desk_core.specs.Past.{past}
use Rattle.hall.specs.Seats.{HallState, SeatState, IsOf, IsCarriedOut, own_calls, with_seen}
use Rattle.hall.specs.CarriedOut.{replied}
use Rattle.hall.specs.Looking.{HasLooked}
use Rattle.hall.proofs.CarryingOut.{has_met}
use Rattle.hall.proofs.LookingLemmas.{older_on}
use Rattle.control.specs.declared.answer.Answer.{Answer}
use Rattle.control.specs.declared.answer.Answer.TheVariants.{NotASession}
use Rattle.script.specs.declared.line.Line.{Line}
use Rattle.script.specs.declared.line.Line.TheVariants.{Register, Retire, Order, Check, Open, Step, Board}
use Rattle.script.specs.Change.{line_change}
use Rattle.script.specs.TextLines.{without_cr}
use Rattle.control.specs.declared.rights.Rights.{Rights}
use Rattle.control.specs.declared.rights.Rights.TheVariants.{All, Reports}
use Rattle.control.specs.declared.request.Request.TheVariants as requests
use Rattle.control.specs.Rights.{IsAllowed, IsReport, unknown_line}
use Rattle.control.specs.declared.request.Request.{Request}
use Rattle.control.specs.declared.terms.Terms.{Terms}
use Rattle.control.specs.Meeting.{IsMet}
use Rattle.control.specs.Known.IsToldOf.{TellsWhy, TellsStatus, TellsEntry}
use Rattle.control.specs.Meeting.IsMet.{Changes, Expects, Checks, Packs, Lists, Tells, Answers, AnswersNone, Stops, Starves, StarvesTold}
use Rattle.control.specs.Meeting.IsLineMet.{IsTooLong, IsSkipped, IsNoText, IsNoRequest, IsUnread, IsDenied, IsAsked}
use Rattle.control.specs.Request.{IsRequest}
use Rattle.control.specs.Talk.AreMet.{Ends, Then, Moves}
use Rattle.control_server.specs.SeatLines.{AreAskedBy, AreFindings, CountsSeen, KnowsSeen, HasMade, HasMet, IsExpectedBySeat, IsFindingAsked, IsMetBySeat, IsTextMetBySeat, results_of}
use Rattle.control_server.specs.SeatLines.AreAskedBy.{NoLines, Change, NoChange}

-- the first change's entry stands before those of the others
replied_first : (seat : ℕ) (call : Option Call) (result : Result Reply Refusal) (calls : List (Option Call)) (results : List (Result Reply Refusal))
    → replied seat (call ∷ calls) (result ∷ results) ≡ replied seat (call ∷ []) (result ∷ []) ++ replied seat calls results
replied_first seat (Some call) (Ok reply) calls results = refl
replied_first seat None (Ok reply) calls results = refl
replied_first seat (Some call) (Err refusal) calls results = refl
replied_first seat None (Err refusal) calls results = refl

made_none : (seat : SeatState) → HasMade seat seat [] []
made_none seat = record { same = refl; begins = record { newer = []; is = refl }; own = refl }

-- a seat that looks, and then makes changes
looks_first : (a b c : SeatState) (calls : List (Option Call)) (results : List (Result Reply Refusal)) → HasLooked a b → HasMade b c calls results → HasMade a c calls results
looks_first a b c calls results looked made =
    let number : b.number ≡ a.number = ap (λ (seat : SeatState). seat.number) looked.same in
    record {
      same = made.same ∙ ap (λ (seat : SeatState). with_seen seat c.seen) looked.same;
      begins = older_on a.seen b.seen c.seen looked.begins made.begins;
      own = made.own ∙ (ap (λ (n : ℕ). past (replied n calls results) ++ own_calls b) number ∙ ap (λ (own : List Entry). past (replied a.number calls results) ++ own) looked.own);
    }

-- a seat that makes one change, and then others
changes_first : (a b c : SeatState) (call : Option Call) (result : Result Reply Refusal) (calls : List (Option Call)) (results : List (Result Reply Refusal))
    → IsCarriedOut a b call result → HasMade b c calls results → HasMade a c (call ∷ calls) (result ∷ results)
changes_first a b c call result calls results carried made =
    let one = has_met a b (call ∷ []) (result ∷ []) (Next a b b call result [] [] carried (Done b)) in
    let same : b ≡ with_seen a b.seen = one.same in
    let number : b.number ≡ a.number = ap (λ (seat : SeatState). seat.number) same in
    let here : List Entry = replied a.number (call ∷ []) (result ∷ []) in
    let there : List Entry = replied a.number calls results in
    record {
      same = made.same ∙ ap (λ (seat : SeatState). with_seen seat c.seen) same;
      begins = older_on a.seen b.seen c.seen one.begins made.begins;
      own = made.own
          ∙ (ap (λ (n : ℕ). past (replied n calls results) ++ own_calls b) number
          ∙ (ap (λ (own : List Entry). past there ++ own) one.own
          ∙ (sym (append_assoc (past there) (past here) (own_calls a))
          ∙ ap (λ (own : List Entry). own ++ own_calls a) (sym (ap past (replied_first a.number call result calls results) ∙ reverse-append here there)))));
    }

found_in : (name : List ℕ) (finding : Finding) (slot : Option ℕ) → IsFindingAsked (option_map (λ s. calls.Observe s finding) slot)
found_in name finding None = tt
found_in name finding (Some slot) = tt

some_same : {X : Type 0} {a b : X} → ◌≡◌ {A = Option X} (Some a) (Some b) → a ≡ b
some_same is = cc

-- a change that a line of a report place asks for tells what was found
found_by : (names : List (List ℕ)) (line : Line) (call : Option Call) → IsReport line → line_change names line ≡ Some call → IsFindingAsked call
found_by names (Order (Observe name finding)) call is asks = subst IsFindingAsked (some_same asks) (found_in name finding (slot_of names name))
found_by names (Register name rule) call is asks = absurd is
found_by names (Retire name) call is asks = absurd is
found_by names (Order (Set name setting)) call is asks = absurd is
found_by names (Order Shutdown) call is asks = absurd is
found_by names (Order Resume) call is asks = absurd is
found_by names (Check name) call is asks = absurd (none-some _ asks)
found_by names (Open name) call is asks = absurd is
found_by names (Step k) call is asks = absurd is
found_by names Board call is asks = absurd (none-some _ asks)

found : (rights : Rights) (names : List (List ℕ)) (line : Line) (call : Option Call) → rights ≡ Reports → IsAllowed rights (requests.Line line) → line_change names line ≡ Some call → IsFindingAsked call
found All names line call is may asks = let no : ⊥ = cc in absurd no
found Reports names line call is may asks = found_by names line call may asks

-- changes that lines asked for, and what they made
record Makes (terms : Terms) (names : List (List ℕ)) (old new : SeatState) (lines : List (List ℕ)) (answers : List Answer) : Type 0 where
  calls : List (Option Call)
  asked : AreAskedBy names lines answers calls
  made : HasMade old new calls (results_of answers)
  findings : terms.rights ≡ Reports → AreFindings calls

-- a line that the seat met by looking at most
quiet_first : (terms : Terms) (names : List (List ℕ)) (a b c : SeatState) (line : List ℕ) (answer : Answer) (lines : List (List ℕ)) (answers : List Answer)
    → results_of (answer ∷ []) ≡ [] → results_of (answer ∷ answers) ≡ results_of answers → HasLooked a b → Makes terms names b c lines answers → Makes terms names a c (line ∷ lines) (answer ∷ answers)
quiet_first terms names a b c line answer lines answers none same looked makes = record {
  calls = makes.calls;
  asked = NoChange line answer lines answers makes.calls none makes.asked;
  made = rw same (looks_first a b c makes.calls (results_of answers) looked makes.made);
  findings = makes.findings;
}

stays : (old new : SeatState) → new ≡ old → HasLooked old new
stays old new same = subst (λ (seat : SeatState). HasLooked seat new) same (record { same = refl; begins = record { newer = []; is = refl }; own = refl })

abbrev seen_in : SeatState → List Entry
seen_in seat = seat.seen

abbrev stays_so : SeatState → SeatState → Type 0
stays_so before after = after ≡ before

request_first : (kept : Option ℕ) (terms : Terms) (names : List (List ℕ)) (a b c : SeatState) (line : List ℕ) (request : Request) (answer : Answer) (lines : List (List ℕ)) (answers : List Answer)
    → IsRequest names (without_cr line) request → IsAllowed terms.rights request → IsMet names seen_in HasLooked IsCarriedOut (IsExpectedBySeat names) (CountsSeen kept terms) (KnowsSeen kept) stays_so a b request answer → Makes terms names b c lines answers → Makes terms names a c (line ∷ lines) (answer ∷ answers)
request_first kept terms names a b c line _ _ lines answers is may (Changes asked call result change carried) makes = record {
  calls = call ∷ makes.calls;
  asked = Change line call result lines answers makes.calls (record { request = asked; is = is; change = change }) makes.asked;
  made = changes_first a b c call result makes.calls (results_of answers) carried makes.made;
  findings = λ reports. (found terms.rights names asked call reports may change, makes.findings reports);
}
request_first kept terms names a b c line _ answer lines answers is may (Expects expectation result expects) makes = quiet_first terms names a b c line _ lines answers refl refl expects.looked makes
request_first kept terms names a b c line _ answer lines answers is may (Checks name looked) makes = quiet_first terms names a b c line _ lines answers refl refl looked makes
request_first kept terms names a b c line _ answer lines answers is may (Packs looked) makes = quiet_first terms names a b c line _ lines answers refl refl looked makes
request_first kept terms names a b c line _ answer lines answers is may (Lists looked) makes = quiet_first terms names a b c line _ lines answers refl refl looked makes
request_first kept terms names a b c line _ answer lines answers is may (Tells stats looked entries) makes = quiet_first terms names a b c line _ lines answers refl refl looked makes
request_first kept terms names a b c line _ _ lines answers is may (Answers question _ looked (TellsWhy name slot standing at known)) makes = quiet_first terms names a b c line _ lines answers refl refl looked makes
request_first kept terms names a b c line _ _ lines answers is may (Answers question _ looked (TellsStatus name slot description at known)) makes = quiet_first terms names a b c line _ lines answers refl refl looked makes
request_first kept terms names a b c line _ _ lines answers is may (Answers question _ looked (TellsEntry recollection known)) makes = quiet_first terms names a b c line _ lines answers refl refl looked makes
request_first kept terms names a b c line _ answer lines answers is may (AnswersNone question none same) makes = quiet_first terms names a b c line _ lines answers refl refl (stays a b same) makes
request_first kept terms names a b c line _ answer lines answers is may (Stops same) makes = quiet_first terms names a b c line _ lines answers refl refl (stays a b same) makes
request_first kept terms names a b c line _ answer lines answers is may (Starves request same) makes = quiet_first terms names a b c line _ lines answers refl refl (stays a b same) makes
request_first kept terms names a b c line _ answer lines answers is may (StarvesTold request looked) makes = quiet_first terms names a b c line _ lines answers refl refl looked makes

-- a line that is no request is answered by no change
unknown_result : (rights : Rights) (answer : Answer) (answers : List Answer) → answer ≡ unknown_line rights → (results_of (answer ∷ []) ≡ []) × (results_of (answer ∷ answers) ≡ results_of answers)
unknown_result All answer answers told = (ap (λ a. results_of (a ∷ [])) told, ap (λ a. results_of (a ∷ answers)) told)
unknown_result Reports answer answers told = (ap (λ a. results_of (a ∷ [])) told, ap (λ a. results_of (a ∷ answers)) told)

unknown_first : (terms : Terms) (names : List (List ℕ)) (a b c : SeatState) (line : List ℕ) (answer : Answer) (lines : List (List ℕ)) (answers : List Answer)
    → answer ≡ unknown_line terms.rights → b ≡ a → Makes terms names b c lines answers → Makes terms names a c (line ∷ lines) (answer ∷ answers)
unknown_first terms names a b c line answer lines answers told same makes =
    let quiet = unknown_result terms.rights answer answers told in quiet_first terms names a b c line answer lines answers quiet.0 quiet.1 (stays a b same) makes

text_first : (kept : Option ℕ) (terms : Terms) (names : List (List ℕ)) (a b c : SeatState) (line : List ℕ) (answer : Answer) (lines : List (List ℕ)) (answers : List Answer)
    → IsTextMetBySeat kept terms names a b line answer → Makes terms names b c lines answers → Makes terms names a c (line ∷ lines) (answer ∷ answers)
text_first kept terms names a b c line _ lines answers (IsTooLong long same) makes = quiet_first terms names a b c line _ lines answers refl refl (stays a b same) makes
text_first kept terms names a b c line _ lines answers (IsSkipped short empty same) makes = quiet_first terms names a b c line _ lines answers refl refl (stays a b same) makes
text_first kept terms names a b c line _ lines answers (IsNoText short not_text answer told same) makes = unknown_first terms names a b c line answer lines answers told same makes
text_first kept terms names a b c line _ lines answers (IsNoRequest said not_request answer told same) makes = unknown_first terms names a b c line answer lines answers told same makes
text_first kept terms names a b c line _ lines answers (IsUnread said same) makes = quiet_first terms names a b c line _ lines answers refl refl (stays a b same) makes
text_first kept terms names a b c line _ lines answers (IsDenied said request is may_not same) makes = quiet_first terms names a b c line _ lines answers refl refl (stays a b same) makes
text_first kept terms names a b c line _ lines answers (IsAsked said request answer is may met) makes = request_first kept terms names a b c line request answer lines answers is may met makes

-- a line that is none of a session makes nothing
told_first : (terms : Terms) (names : List (List ℕ)) (a b c : SeatState) (line : List ℕ) (answer : Answer) (lines : List (List ℕ)) (answers : List Answer)
    → answer ≡ NotASession → b ≡ a → Makes terms names b c lines answers → Makes terms names a c (line ∷ lines) (answer ∷ answers)
told_first terms names a b c line answer lines answers told same makes =
    quiet_first terms names a b c line answer lines answers (ap (λ (given : Answer). results_of (given ∷ [])) told) (ap (λ (given : Answer). results_of (given ∷ answers)) told) (stays a b same) makes

line_first : (kept : Option ℕ) (terms : Terms) (names : List (List ℕ)) (a b c : SeatState) (line : List ℕ) (answer : Answer) (lines : List (List ℕ)) (answers : List Answer)
    → IsMetBySeat kept terms names a b line answer → Makes terms names b c lines answers → Makes terms names a c (line ∷ lines) (answer ∷ answers)
line_first kept terms names a b c line answer lines answers (inl told) makes = told_first terms names a b c line answer lines answers told.1 told.2 makes
line_first kept terms names a b c line answer lines answers (inr met) makes = text_first kept terms names a b c line answer lines answers met makes

makes_all : (kept : Option ℕ) (terms : Terms) (names : List (List ℕ)) (old new : SeatState) (lines : List (List ℕ)) (answers : List Answer) → HasMet kept terms names old new lines answers → Makes terms names old new lines answers
makes_all kept terms names _ _ _ _ (Ends seat) = record { calls = []; asked = NoLines; made = made_none seat; findings = λ reports. tt }
makes_all kept terms names _ _ _ _ (Then old between new line answer lines answers met are) =
    line_first kept terms names old between new line answer lines answers met (makes_all kept terms names between new lines answers are)
makes_all kept terms names _ _ _ _ (Moves old between new lines answers looked are) =
    let makes = makes_all kept terms names between new lines answers are in
    record { calls = makes.calls; asked = makes.asked; made = looks_first old between new makes.calls (results_of answers) looked makes.made; findings = makes.findings }

-- a seat has made the changes that its lines asked for
pub lines_make : (kept : Option ℕ) (terms : Terms) (names : List (List ℕ)) (old new : SeatState) (lines : List (List ℕ)) (answers : List Answer) → HasMet kept terms names old new lines answers
    → (calls : List (Option Call)) × AreAskedBy names lines answers calls × HasMade old new calls (results_of answers)
lines_make kept terms names old new lines answers met = let makes = makes_all kept terms names old new lines answers met in (makes.calls, makes.asked, makes.made)

-- by a report place these are findings alone
pub reports_find : (kept : Option ℕ) (terms : Terms) (names : List (List ℕ)) (old new : SeatState) (lines : List (List ℕ)) (answers : List Answer) → terms.rights ≡ Reports → HasMet kept terms names old new lines answers
    → (calls : List (Option Call)) × AreAskedBy names lines answers calls × HasMade old new calls (results_of answers) × AreFindings calls
reports_find kept terms names old new lines answers reports met =
    let makes = makes_all kept terms names old new lines answers met in (makes.calls, makes.asked, makes.made, makes.findings reports)

-- and stays the hall's
pub met_ours : (kept : Option ℕ) (terms : Terms) (names : List (List ℕ)) (hall : HallState) (old new : SeatState) (lines : List (List ℕ)) (answers : List Answer) → HasMet kept terms names old new lines answers → IsOf hall old → IsOf hall new
met_ours kept terms names hall old new lines answers met ours =
    let same = (makes_all kept terms names old new lines answers met).made.same in
    record { table = ap (λ (seat : SeatState). seat.table) same ∙ ours.table; most = ap (λ (seat : SeatState). seat.most) same ∙ ours.most }
