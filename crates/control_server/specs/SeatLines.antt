-- What sessions make of the seat that they have, one after the other, and what of it is in the seat's history.
use Rattle.std.specs.Prelude.{ℕ, ◌≡◌, ◌⊎◌, ◌-◌, Option, Some, None, List, [], ◌∷◌, ◌++◌, length, Result}
use Rattle.desk_core.specs.declared.call.Call.{Call}
use Rattle.desk_core.specs.declared.call.Call.TheVariants as calls
use Rattle.desk_core.specs.declared.refusal.Refusal.{Refusal}
use Rattle.desk_core.specs.declared.reply.Reply.{Reply}
use Rattle.desk_core.specs.Past.{past}
use Rattle.desk_core.specs.Watch.{IsOlder}
use Rattle.hall.specs.Seats.{SeatState, IsCarriedOut, own_calls, with_seen}
use Rattle.hall.specs.CarriedOut.{replied}
use Rattle.hall.specs.Looking.{HasLooked}
use Rattle.script.specs.declared.expectation.Expectation.{Expectation}
use Rattle.script.specs.declared.line.Line.{Line}
use Rattle.script.specs.Change.{line_change}
use Rattle.script.specs.TextLines.{without_cr}
use Rattle.control.specs.declared.answer.Answer.{Answer}
use Rattle.control.specs.declared.answer.Answer.TheVariants.{Changed, Expected, Checked, Board, Listed, Told, Explained, Described, Recalled, NotFound, Stopping, BadLine, TooLong, NotAllowed, NotASession, OutOfMemory, Skipped}
use Rattle.control.specs.declared.request.Request.TheVariants as requests
use Rattle.control.specs.declared.stats.Stats.{Stats}
use Rattle.control.specs.declared.terms.Terms.{Terms}
use Rattle.control.specs.Known.{Asked, Known, known_of}
use Rattle.control.specs.Request.{IsRequest}
use Rattle.control.specs.Meeting.{IsLineMet, expected_reply}
use Rattle.control.specs.Talk.{AreMet}
use Rattle.control.specs.WebLine.{IsWebLine}
use Rattle.tail.specs.Tail.{forgotten}

-- the numbers of entries, those that were made, those that are kept and those that may still be made, are those of what the seat has seen,
-- of which so many entries are kept
pub record CountsSeen (kept : Option ℕ) (terms : Terms) (seat : SeatState) (stats : Stats) : Type 0 where
  pub entries : stats.entries ≡ length seat.seen
  pub in_memory : stats.kept ≡ length seat.seen - forgotten kept (length seat.seen)
  pub left : stats.left ≡ terms.most - length seat.seen

-- what is known is known by what the seat has seen, of which so many entries are kept
abbrev pub KnowsSeen : Option ℕ → SeatState → Asked → Known → Type 0
KnowsSeen kept seat asked known = known ≡ known_of kept seat.seen asked

-- the seat has at most looked, and an expectation is answered by what it has seen by then
pub record IsExpectedBySeat (names : List (List ℕ)) (old new : SeatState)
    (expectation : Expectation) (result : Result Reply Refusal) : Type 0 where
  pub looked : HasLooked old new
  pub answered : result ≡ expected_reply names new.seen expectation

-- The line is met by the seat with this answer, by these terms: a change by a change of the seat, anything else by what the seat has seen,
-- of which so many entries are kept
abbrev pub IsTextMetBySeat : Option ℕ → Terms → List (List ℕ) → SeatState → SeatState → List ℕ → Answer → Type 0
IsTextMetBySeat kept terms names old new line answer =
    IsLineMet terms.rights names (λ seat. seat.seen) HasLooked IsCarriedOut (IsExpectedBySeat names) (CountsSeen kept terms) (KnowsSeen kept) (λ before after. after ≡ before) old new line answer

-- the same of any line that comes: one that a web browser sends may be answered that it is none of a session, and then nothing is done
abbrev pub IsMetBySeat : Option ℕ → Terms → List (List ℕ) → SeatState → SeatState → List ℕ → Answer → Type 0
IsMetBySeat kept terms names old new line answer =
    (IsWebLine line × (answer ≡ NotASession) × (new ≡ old)) ⊎ IsTextMetBySeat kept terms names old new line answer

-- By this seat these lines were met, one after the other, each with its answer at its point of the history. In between it has at most looked
abbrev pub HasMet : Option ℕ → Terms → List (List ℕ) → SeatState → SeatState → List (List ℕ) → List Answer → Type 0
HasMet kept terms names old new lines answers = AreMet HasLooked (IsMetBySeat kept terms names) old new lines answers

-- the results of the changes among answers
abbrev pub results_of : List Answer → List (Result Reply Refusal)
results_of [] = []
results_of (Changed result ∷ answers) = result ∷ results_of answers
results_of (Expected result ∷ answers) = results_of answers
results_of (Checked status ∷ answers) = results_of answers
results_of (Board word ∷ answers) = results_of answers
results_of (Listed word ∷ answers) = results_of answers
results_of (Told stats ∷ answers) = results_of answers
results_of (Explained reason ∷ answers) = results_of answers
results_of (Described description ∷ answers) = results_of answers
results_of (Recalled recollection ∷ answers) = results_of answers
results_of (NotFound ∷ answers) = results_of answers
results_of (Stopping ∷ answers) = results_of answers
results_of (BadLine ∷ answers) = results_of answers
results_of (TooLong ∷ answers) = results_of answers
results_of (NotAllowed ∷ answers) = results_of answers
results_of (NotASession ∷ answers) = results_of answers
results_of (OutOfMemory ∷ answers) = results_of answers
results_of (Skipped ∷ answers) = results_of answers

-- the line asks for this change
pub record AsksFor (names : List (List ℕ)) (line : List ℕ) (call : Option Call) : Type 0 where
  pub request : Line
  pub is : IsRequest names (without_cr line) (requests.Line request)
  pub change : line_change names request ≡ Some call

-- these are the changes that were asked for by those of the lines that were answered by a change, in their order
pub data AreAskedBy (names : List (List ℕ)) : List (List ℕ) → List Answer → List (Option Call) → Type 0 where
  NoLines : AreAskedBy names [] [] []
  Change : (line : List ℕ) (call : Option Call) (result : Result Reply Refusal) (lines : List (List ℕ)) (answers : List Answer) (calls : List (Option Call))
      → AsksFor names line call → AreAskedBy names lines answers calls → AreAskedBy names (line ∷ lines) (Changed result ∷ answers) (call ∷ calls)
  NoChange : (line : List ℕ) (answer : Answer) (lines : List (List ℕ)) (answers : List Answer) (calls : List (Option Call))
      → results_of (answer ∷ []) ≡ [] → AreAskedBy names lines answers calls → AreAskedBy names (line ∷ lines) (answer ∷ answers) calls

-- A seat that was asked for these changes, with these results, and looked in between: it is the same seat, whose history goes on, and its
-- own entries are those of the changes that got a reply, in front of those that it had
pub record HasMade (old new : SeatState) (calls : List (Option Call)) (results : List (Result Reply Refusal)) : Type 0 where
  pub same : new ≡ with_seen old new.seen
  pub begins : IsOlder old.seen new.seen
  pub own : own_calls new ≡ past (replied old.number calls results) ++ own_calls old

-- the change tells what was found; one whose name is not listed changes nothing
abbrev pub IsFindingAsked : Option Call → Type 0
IsFindingAsked None = Unit {0}
IsFindingAsked (Some (calls.Register slot rule)) = ⊥
IsFindingAsked (Some (calls.Retire slot)) = ⊥
IsFindingAsked (Some (calls.Observe slot finding)) = Unit {0}
IsFindingAsked (Some (calls.Set slot setting)) = ⊥
IsFindingAsked (Some calls.Shutdown) = ⊥
IsFindingAsked (Some calls.Resume) = ⊥

-- each of the changes does
abbrev pub AreFindings : List (Option Call) → Type 0
AreFindings [] = Unit {0}
AreFindings (call ∷ others) = IsFindingAsked call × AreFindings others
