-- A request as it comes in: the bytes of its head and of its body.
use Rattle.std.specs.Prelude.{ℕ, ◌≡◌, ◌+◌, ◌<◌, List, [], ◌++◌, length}
use Rattle.web_call.specs.declared.intake.Intake.{Intake}
use Rattle.web_call.specs.declared.intake.Reading.{Reading}
use Rattle.web_call.specs.declared.intake.Reading.TheVariants.{Head, Body, Whole, Starved}
use Rattle.web_call.specs.Head.{IsHeaded}
use Rattle.web_call.specs.HeadAnswer.{HeadAnswer, Refused, Ended, Asked}
use Rattle.web_call.specs.InputHead.{IsHead, IsOpenHead}

-- the length of the body that a head asks for; one that is refused asks for none
abbrev pub body_len : HeadAnswer → ℕ
body_len (Refused http) = 0
body_len (Ended code text) = 0
body_len (Asked method len) = len

-- a head, of whose body so many bytes are there and so many to come
pub record HasHead (head : List ℕ) (there left : ℕ) : Type 0 where
  pub answer : HeadAnswer
  pub is_head : IsHead head
  pub is_headed : IsHeaded head answer
  pub len : there + left ≡ body_len answer

-- how far these bytes have come as a head and a body
abbrev pub AreRead : Reading → List ℕ → List ℕ → Type 0
AreRead Head head body = IsOpenHead head × (body ≡ [])
AreRead (Body left) head body = HasHead head (length body) left × (0 < left)
AreRead Whole head body = HasHead head (length body) 0
AreRead Starved head body = ((left : ℕ) × HasHead head 0 left × (0 < left)) × (body ≡ [])

-- these bytes were received
pub record HasRead (intake : Intake) (received : List ℕ) : Type 0 where
  pub is : received ≡ intake.head.items ++ intake.body.items
  pub read : AreRead intake.reading intake.head.items intake.body.items
