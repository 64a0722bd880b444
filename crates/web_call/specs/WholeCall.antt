-- A call as a whole: what it has sent for what it was given.
use Rattle.std.specs.Prelude.{ℕ, ◌≡◌, ◌++◌, Option, List, [], length}
use Rattle.web_call.specs.declared.outcome.Outcome.{Outcome}
use Rattle.web_call.specs.Answer.{IsAnswered, Sends, Source}
use Rattle.web_call.specs.Head.{IsHeaded}
use Rattle.web_call.specs.HeadAnswer.{HeadAnswer}
use Rattle.web_call.specs.Intake.{body_len}
use Rattle.web_call.specs.Past.{Past, asking_of}
use Rattle.web_call.specs.Pieces.{Piece, text_of, frames_within, counted}
use Rattle.web_call.specs.Request.{IsRequested}

-- a whole request was received, and nobody was asked yet
pub record IsWholeRequest (past : Past) : Type 0 where
  pub head : List ℕ
  pub body : List ℕ
  pub answer : HeadAnswer
  pub requested : IsRequested head body past.received
  pub is_headed : IsHeaded head answer
  pub len : length body ≡ body_len answer
  pub unasked : past.asked ≡ []

-- the call ended well: the whole answer to its request was sent
pub record IsWholeCall (source : Source) (past : Past) (outcome : Outcome) : Type 0 where
  pub head : List ℕ
  pub body : List ℕ
  pub pieces : List Piece
  pub requested : IsRequested head body past.received
  pub answered : IsAnswered (asking_of source past head body) pieces outcome
  pub all_sent : past.sent ≡ text_of pieces

-- a front of the answer to its request was sent, and this is left of what is being sent; so many frames went out whole
pub record IsCutCall (source : Source) (past : Past) (ending : Option Outcome) (left : List ℕ) (frames : ℕ) : Type 0 where
  pub head : List ℕ
  pub body : List ℕ
  pub done : List Piece
  pub part : List Piece
  pub front : List ℕ
  pub requested : IsRequested head body past.received
  pub sends : Sends (asking_of source past head body) done part ending
  pub is_left : text_of part ≡ front ++ left
  pub was_sent : past.sent ≡ text_of done ++ front
  pub whole : frames ≡ counted (frames_within (done ++ part) (length past.sent))
