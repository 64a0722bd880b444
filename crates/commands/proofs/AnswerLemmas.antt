use Rattle.std.proofs.Common.{◌≡◌, ℕ, ◌<◌, ◌≤◌, Option, List, length, codes, String, refl, ap, ◌∙◌, arith}
use Rattle.std.specs.Global.{Global}
use Rattle.grpc_frame.specs.declared.code.Code.{Code}
use Rattle.grpc_frame.specs.declared.code.Code.TheVariants.{ResourceExhausted}
use Rattle.grpc_frame.specs.Frame.{frame}
use Rattle.grpc_frame.specs.Trailers.{block}
use Rattle.health_wire.specs.declared.serving.Serving.{Serving}
use Rattle.web_call.specs.declared.method.Method.TheVariants.{Check}
use Rattle.web_call.specs.Ask.{Asked, IsAsked, Refused, Checked}
use Rattle.commands.specs.Answer.{IsAnswer, listed_status}
use Rattle.commands.specs.Answer.IsAnswer.{TooLarge, Refuses, Answers}
use Rattle.web_call.specs.Response.{check_body_text}

-- each rule of an answer, at an answer that is equal to what it gives
pub too_large : (list : List (String Global × Serving)) (body answer : List ℕ) → 8192 < length body
    → answer ≡ frame 128 (block ResourceExhausted (codes "request too large")) → IsAnswer list body answer
too_large list body answer over is = rw is (TooLarge over)

pub refuses : (list : List (String Global × Serving)) (body answer : List ℕ) (code : Code) (text : List ℕ) → length body ≤ 8192
    → IsAsked Check body (Refused code text) → answer ≡ frame 128 (block code text) → IsAnswer list body answer
refuses list body answer code text within asked is = rw is (Refuses code text within asked)

pub answers : (list : List (String Global × Serving)) (body answer name : List ℕ) (status : Option Serving) → length body ≤ 8192
    → IsAsked Check body (Checked name) → status ≡ listed_status list name → answer ≡ check_body_text status → IsAnswer list body answer
answers list body answer name status within asked found is = rw (is, found) (Answers name within asked)

pub one_answer_to : ((a b : Asked) (body : List ℕ) → IsAsked Check body a → IsAsked Check body b → a ≡ b)
    → (list : List (String Global × Serving)) (body a b : List ℕ) → IsAnswer list body a → IsAnswer list body b → a ≡ b
one_answer_to once list body a b (TooLarge over) (TooLarge other) = refl
one_answer_to once list body a b (TooLarge over) (Refuses code text within asked) = absurd (omega arith)
one_answer_to once list body a b (TooLarge over) (Answers name within asked) = absurd (omega arith)
one_answer_to once list body a b (Refuses code text within asked) (TooLarge over) = absurd (omega arith)
one_answer_to once list body a b (Answers name within asked) (TooLarge over) = absurd (omega arith)
one_answer_to once list body a b (Refuses code text within asked) (Refuses code' text' within' asked') =
    let same : Refused code text ≡ Refused code' text' = once _ _ body asked asked' in
    let codes_same : code ≡ code' = cc in
    let texts_same : text ≡ text' = cc in
    ap (λ c. frame 128 (block c text)) codes_same ∙ ap (λ t. frame 128 (block code' t)) texts_same
one_answer_to once list body a b (Refuses code text within asked) (Answers name within' asked') =
    let same : Refused code text ≡ Checked name = once _ _ body asked asked' in cc
one_answer_to once list body a b (Answers name within asked) (Refuses code text within' asked') =
    let same : Checked name ≡ Refused code text = once _ _ body asked asked' in cc
one_answer_to once list body a b (Answers name within asked) (Answers other within' asked') =
    let same : Checked name ≡ Checked other = once _ _ body asked asked' in
    let names_same : name ≡ other = cc in
    ap (λ n. check_body_text (listed_status list n)) names_same
