-- How the statuses that a response tells grow, one by one.
use Rattle.std.specs.Prelude.{ℕ, ◌≡◌, ◌⊎◌, ◌≤◌, List, [], ◌∷◌, ◌++◌, length}
use Rattle.grpc_frame.specs.Frame.{frame}
use Rattle.grpc_frame.specs.Split.{max_content_len}
use Rattle.health_wire.specs.Response.{IsResponse}
use Rattle.web_call.specs.declared.method.Method.{Method}
use Rattle.client.specs.declared.response_body.Next.{Next}
use Rattle.client.specs.Reply.{EndsWith}

-- the last of these bytes is the last one of the frame of a message, whose status comes behind those before
pub record EndsInStatus (method : Method) (bytes before after : List ℕ) : Type 0 where
  pub next : Next
  pub more : ℕ
  pub message : List ℕ
  pub status : ℕ
  pub ends : EndsWith method bytes next more before (frame 0 message)
  pub fits : length message ≤ max_content_len
  pub response : IsResponse message status
  pub after_is : after ≡ before ++ status ∷ []

-- with the last of these bytes no status came, or one
abbrev pub Grows : Method → (bytes before after : List ℕ) → Type 0
Grows method bytes before after = (after ≡ before) ⊎ EndsInStatus method bytes before after
