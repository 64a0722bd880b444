-- The answers to requests that are no calls, over the names of a catalogue, at a history, the newest entry first.
use Rattle.std.specs.Prelude.{ℕ, ◌≡◌, List, length, Option, None, Some, option_and_then, option_map}
use Rattle.desk_core.specs.declared.entry.Entry.{Entry}
use Rattle.desk_core.specs.Status.{status_at, status_map}
use Rattle.httparse.specs.Grammar.{RequestHead}
use Rattle.plain.specs.declared.figures.Figures.{Figures}
use Rattle.plain.specs.declared.response.Kind.TheVariants.{Json, Metrics as MetricsKind, Page as PageKind}
use Rattle.plain.specs.declared.verb.Verb.{Verb}
use Rattle.plain.specs.declared.verb.Verb.TheVariants.{Get, Head, Post, Other}
use Rattle.plain.specs.Escapes.{name_of}
use Rattle.plain.specs.Inquiry.{Asked, asked_by}
use Rattle.plain.specs.Metrics.{metrics_text}
use Rattle.plain.specs.Page.{page}
use Rattle.plain.specs.PlainText.{IsHeadOf, PlainText}
use Rattle.plain.specs.Response.{Reply, response}
use Rattle.plain.specs.Services.{services_text}
use Rattle.plain.specs.StatusText.{call_only, not_found, read_only, status_reply}
use Rattle.plain.specs.Target.{Resource, Status, Services, Metrics, Page, Call, Nothing}

-- what is read there. The status of a service is that of the map, as for a Check; a name that is not well escaped has none
abbrev pub reading : Resource → List (List ℕ) → List Entry → Figures → Reply
reading (Status escaped) names seen figures = status_reply (option_and_then (status_map names seen) (name_of escaped))
reading Services names seen figures = record { kind = Json; body = services_text (length seen) (status_at seen) names }
reading Metrics names seen figures = record { kind = MetricsKind; body = metrics_text (length seen) (status_at seen) names figures }
reading Page names seen figures = record { kind = PageKind; body = page }
reading Call names seen figures = call_only
reading Nothing names seen figures = not_found

-- how a method that does not read is refused
abbrev pub refusal : Resource → Reply
refusal (Status escaped) = read_only
refusal Services = read_only
refusal Metrics = read_only
refusal Page = read_only
refusal Call = call_only
refusal Nothing = not_found

-- the reply to a method
abbrev pub reply_to : Verb → Resource → List (List ℕ) → List Entry → Figures → Reply
reply_to Get resource names seen figures = reading resource names seen figures
reply_to Head resource names seen figures = reading resource names seen figures
reply_to Post resource names seen figures = refusal resource
reply_to Other resource names seen figures = refusal resource

-- the text of the answer
abbrev pub answer_to : Asked → PlainText
answer_to asked names seen figures = response asked.verb (reply_to asked.verb asked.resource names seen figures)

-- all requests but calls are answered
abbrev pub plain_answers : RequestHead → Option PlainText
plain_answers request = option_map answer_to (asked_by request.method request.target)

-- the bytes are the head of no request that is answered so
abbrev pub IsLeft : List ℕ → Type 0
IsLeft bytes = (request : RequestHead) → IsHeadOf request bytes → plain_answers request ≡ None

-- the bytes are the head of a request that asks this
pub record IsInquiryOf (bytes : List ℕ) (asked : Asked) : Type 0 where
  pub request : RequestHead
  pub is_head : IsHeadOf request bytes
  pub is_plain : plain_answers request ≡ Some (answer_to asked)

-- the bytes are the head of a request that is answered by this text, over these names, at this history, whatever is counted
pub record IsTold (names : List (List ℕ)) (seen : List Entry) (bytes text : List ℕ) : Type 0 where
  pub request : RequestHead
  pub is_head : IsHeadOf request bytes
  pub answer : PlainText
  pub is_plain : plain_answers request ≡ Some answer
  pub figures : Figures
  pub text_is : text ≡ answer names seen figures
