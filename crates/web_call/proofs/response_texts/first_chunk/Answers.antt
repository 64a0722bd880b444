use Rattle.std.proofs.Common.{sym, ap, ◌∙◌, ◌++◌, ◌∷◌, [], List, ℕ, false, arith}
use Rattle.std.proofs.lemmas.Fmt.{hex_one_digit}
use Rattle.health_wire.specs.declared.serving.Serving.{Serving}
use Rattle.health_wire.specs.declared.serving.Serving.TheVariants as servings
use Rattle.web_call.specs.Pieces.{plain, framed, text_of}
use Rattle.web_call.specs.ResponseTexts.{crlf, message_chunk, message_frame, watch_head_text}
use Rattle.web_call.proofs.response_texts.first_chunk.Goals as goal

-- the head and a chunk whose size stands as these digits
abbrev headed : Serving → List ℕ → List ℕ
headed status size = watch_head_text ++ text_of (plain (size ++ crlf) ∷ framed (message_frame status) ∷ plain crlf ∷ [])

abbrev first : Serving → List ℕ
first status = watch_head_text ++ text_of (message_chunk status)

pub returns-in-Unknown : goal.returns-in-Unknown
returns-in-Unknown c = ap (λ size. headed servings.Unknown size) (sym (hex_one_digit false 5 (omega arith))) ∙ ap first (sym c.in-Unknown.is)

pub returns-in-Serving : goal.returns-in-Serving
returns-in-Serving c = ap (λ size. headed servings.Serving size) (sym (hex_one_digit false 7 (omega arith))) ∙ ap first (sym c.in-Serving.is)

pub returns-in-NotServing : goal.returns-in-NotServing
returns-in-NotServing c = ap (λ size. headed servings.NotServing size) (sym (hex_one_digit false 7 (omega arith))) ∙ ap first (sym c.in-NotServing.is)

pub returns-in-ServiceUnknown : goal.returns-in-ServiceUnknown
returns-in-ServiceUnknown c = ap (λ size. headed servings.ServiceUnknown size) (sym (hex_one_digit false 7 (omega arith))) ∙ ap first (sym c.in-ServiceUnknown.is)
