-- How a request is met over a registry, which somebody sees and changes.
use Rattle.std.specs.Prelude.{ℕ, ◌≡◌, ◌≢◌, ◌<◌, ◌≤◌, List, [], if◌then◌else◌, length, Option, None, Some, Result, Ok, Err}
use Rattle.std.specs.Str.{IsUtf8}
use Rattle.probe_core.specs.declared.rule.Rule.{Rule}
use Rattle.desk_core.specs.declared.call.Call.{Call}
use Rattle.desk_core.specs.declared.entry.Entry.{Entry}
use Rattle.desk_core.specs.declared.refusal.Refusal.{Refusal}
use Rattle.desk_core.specs.declared.refusal.Refusal.TheVariants.{NotListed}
use Rattle.desk_core.specs.declared.reply.Reply.{Reply}
use Rattle.desk_core.specs.declared.reply.Reply.TheVariants.{Done, Missing, WrongKind}
use Rattle.desk_core.specs.Board.{board_of}
use Rattle.desk_core.specs.Catalogue.{slot_of}
use Rattle.desk_core.specs.Present.{rule_at}
use Rattle.desk_core.specs.Silence.{follows_findings}
use Rattle.desk_core.specs.Status.{status_map}
use Rattle.script.specs.declared.expectation.Expectation.{Expectation}
use Rattle.script.specs.declared.line.Line.{Line}
use Rattle.script.specs.declared.line.Line.TheVariants.{Check, Board}
use Rattle.script.specs.declared.question.Question.{Question}
use Rattle.script.specs.Change.{line_change}
use Rattle.script.specs.TextLines.{without_cr}
use Rattle.control.specs.declared.answer.Answer.{Answer}
use Rattle.control.specs.declared.answer.Answer.TheVariants as answers
use Rattle.control.specs.declared.request.Request.{Request}
use Rattle.control.specs.declared.request.Request.TheVariants as requests
use Rattle.control.specs.declared.stats.Stats.{Stats}
use Rattle.control.specs.declared.rights.Rights.{Rights}
use Rattle.control.specs.Known.{Asked, IsOfNone, IsToldOf, Known}
use Rattle.control.specs.Request.{IsRequest}
use Rattle.control.specs.Rights.{IsAllowed, unknown_line}

-- the answer to an expectation of a service with this rule, or of none: only a rule that follows
-- findings has silence
abbrev pub reply_by_rule : Option Rule → Reply
reply_by_rule None = Missing
reply_by_rule (Some rule) = if follows_findings rule then Done else WrongKind

-- the same of the service at a slot, or of a name that has none
abbrev pub reply_at : List Entry → Option ℕ → Result Reply Refusal
reply_at seen None = Err NotListed
reply_at seen (Some slot) = Ok (reply_by_rule (rule_at seen slot))

-- how an expectation is answered over this history
abbrev pub expected_reply : List (List ℕ) → List Entry → Expectation → Result Reply Refusal
expected_reply names seen expectation = reply_at seen (slot_of names expectation.name)

-- The request is met with this answer, between two states. `changes` says how a change that was asked for comes out, `expects` the same of an
-- expectation, `looks` that the state has at most seen more, and `seen` is the history that it has seen, the newest entry first; `tells` says
-- what it counts, `knows` what is known of the history, and `stops` that the server is to end. A change has its reply, and all else is told at
-- one point of the history. Where memory ran out nothing was changed
pub data IsMet {S : Type 0} (names : List (List ℕ)) (seen : S → List Entry) (looks : S → S → Type 0)
    (changes : S → S → Option Call → Result Reply Refusal → Type 0) (expects : S → S → Expectation → Result Reply Refusal → Type 0) (tells : S → Stats → Type 0) (knows : S → Asked → Known → Type 0) (stops : S → S → Type 0) (old new : S) : Request → Answer → Type 0 where
  Changes : (line : Line) (call : Option Call) (result : Result Reply Refusal) → line_change names line ≡ Some call → changes old new call result
      → IsMet names seen looks changes expects tells knows stops old new (requests.Line line) (answers.Changed result)
  Expects : (expectation : Expectation) (result : Result Reply Refusal)
      → expects old new expectation result
      → IsMet names seen looks changes expects tells knows stops old new (requests.Expect expectation) (answers.Expected result)
  Checks : (name : List ℕ) → looks old new
      → IsMet names seen looks changes expects tells knows stops old new (requests.Line (Check name)) (answers.Checked (status_map names (seen new) name))
  Packs : looks old new → IsMet names seen looks changes expects tells knows stops old new (requests.Line Board) (answers.Board (board_of (seen new)))
  Lists : looks old new → IsMet names seen looks changes expects tells knows stops old new requests.List (answers.Listed (board_of (seen new)))
  Tells : (stats : Stats) → looks old new → tells new stats → IsMet names seen looks changes expects tells knows stops old new requests.Stats (answers.Told stats)
  Answers : (question : Question) (answer : Answer) → looks old new → IsToldOf names (knows new) question answer
      → IsMet names seen looks changes expects tells knows stops old new (requests.Ask question) answer
  AnswersNone : (question : Question) → IsOfNone names question → new ≡ old
      → IsMet names seen looks changes expects tells knows stops old new (requests.Ask question) answers.NotFound
  Stops : stops old new → IsMet names seen looks changes expects tells knows stops old new requests.Stop answers.Stopping
  Starves : (request : Request) → new ≡ old → IsMet names seen looks changes expects tells knows stops old new request answers.OutOfMemory
  StarvesTold : (request : Request) → looks old new → IsMet names seen looks changes expects tells knows stops old new request answers.OutOfMemory

-- The line, which stands before LF, says something: it is text of at most 1,024 bytes, and of one byte or more without a CR at its end
pub record IsSaid (line : List ℕ) : Type 0 where
  pub short : length line ≤ 1024
  pub text : IsUtf8 line
  pub some : without_cr line ≢ []

-- The line is met with this answer in a session with these rights. Its CR at the end is no part of what it says
pub data IsLineMet {S : Type 0} (rights : Rights) (names : List (List ℕ)) (seen : S → List Entry) (looks : S → S → Type 0)
    (changes : S → S → Option Call → Result Reply Refusal → Type 0) (expects : S → S → Expectation → Result Reply Refusal → Type 0) (tells : S → Stats → Type 0) (knows : S → Asked → Known → Type 0) (stops : S → S → Type 0) (old new : S) (line : List ℕ) : Answer → Type 0 where
  IsTooLong : 1024 < length line → new ≡ old → IsLineMet rights names seen looks changes expects tells knows stops old new line answers.TooLong
  IsNoText : length line ≤ 1024 → ¬ IsUtf8 line → (answer : Answer) → answer ≡ unknown_line rights → new ≡ old → IsLineMet rights names seen looks changes expects tells knows stops old new line answer
  IsSkipped : length line ≤ 1024 → without_cr line ≡ [] → new ≡ old → IsLineMet rights names seen looks changes expects tells knows stops old new line answers.Skipped
  IsNoRequest : IsSaid line → ((request : Request) → ¬ IsRequest names (without_cr line) request) → (answer : Answer) → answer ≡ unknown_line rights → new ≡ old
      → IsLineMet rights names seen looks changes expects tells knows stops old new line answer
  IsUnread : IsSaid line → new ≡ old → IsLineMet rights names seen looks changes expects tells knows stops old new line answers.OutOfMemory
  IsDenied : IsSaid line → (request : Request) → IsRequest names (without_cr line) request → ¬ IsAllowed rights request → new ≡ old
      → IsLineMet rights names seen looks changes expects tells knows stops old new line answers.NotAllowed
  IsAsked : IsSaid line → (request : Request) (answer : Answer) → IsRequest names (without_cr line) request → IsAllowed rights request
      → IsMet names seen looks changes expects tells knows stops old new request answer
      → IsLineMet rights names seen looks changes expects tells knows stops old new line answer
