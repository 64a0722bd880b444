-- A Check from body to body, over statuses in a list.
use Rattle.std.specs.Prelude.{ℕ, ◌<◌, ◌≤◌, Option, find, List, length, codes, String}
use Rattle.std.specs.Option.{option_map}
use Rattle.std.specs.String.{string_bytes}
use Rattle.std.specs.Global.{Global}
use Rattle.std.specs.Str.{bytes_eq}
use Rattle.grpc_frame.specs.declared.code.Code.{Code}
use Rattle.grpc_frame.specs.declared.code.Code.TheVariants.{ResourceExhausted}
use Rattle.grpc_frame.specs.Frame.{frame}
use Rattle.grpc_frame.specs.Trailers.{block}
use Rattle.health_wire.specs.declared.serving.Serving.{Serving}
use Rattle.web_call.specs.declared.method.Method.TheVariants.{Check}
use Rattle.web_call.specs.Ask.{IsAsked, Refused, Checked}
use Rattle.web_call.specs.Response.{check_body_text}

-- the status in the first pair with this name
abbrev pub listed_status : List (String Global × Serving) → List ℕ → Option Serving
listed_status list name = option_map (λ pair. pair.1) (find (λ pair. bytes_eq (string_bytes pair.0) name) list)

-- the answer to the body of a Check: one over 8,192 bytes, this server's limit, is refused unread, and another is answered by
-- what it asks, from the list
pub data IsAnswer (list : List (String Global × Serving)) (body : List ℕ) : List ℕ → Type 0 where
  TooLarge : 8192 < length body → IsAnswer list body (frame 128 (block ResourceExhausted (codes "request too large")))
  Refuses : (code : Code) (text : List ℕ) → length body ≤ 8192 → IsAsked Check body (Refused code text) → IsAnswer list body (frame 128 (block code text))
  Answers : (name : List ℕ) → length body ≤ 8192 → IsAsked Check body (Checked name) → IsAnswer list body (check_body_text (listed_status list name))
