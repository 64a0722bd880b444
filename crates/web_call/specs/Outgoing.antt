-- What goes out: a text, how much of it was sent, and the frames before it.
use Rattle.std.specs.Prelude.{ℕ, ◌≡◌, ◌+◌, List, ◌++◌, length, drop}
use Rattle.web_call.specs.declared.outgoing.Outgoing.{Outgoing}
use Rattle.web_call.specs.Pieces.{Piece, text_of, frames_within, counted}
use Rattle.web_call.specs.Text.{text_bytes, frames_by, IsTextOf}

-- what is left to send
abbrev pub left_of : Outgoing → List ℕ
left_of outgoing = drop outgoing.gone (text_bytes outgoing.text)

-- how many frames went out whole
abbrev pub frames_out : Outgoing → ℕ
frames_out outgoing = counted (outgoing.earlier + frames_by outgoing.text outgoing.gone)

-- some pieces went out whole, and of a part as much as is not left; these bytes were sent
pub record GoesOut (outgoing : Outgoing) (done part : List Piece) (sent : List ℕ) : Type 0 where
  pub front : List ℕ
  pub is_text : IsTextOf outgoing.text part
  pub was_sent : sent ≡ text_of done ++ front
  pub is_left : text_of part ≡ front ++ left_of outgoing
  pub gone_is : outgoing.gone ≡ length front
  pub earlier_are : outgoing.earlier ≡ counted (frames_within done (length (text_of done)))
