use Rattle.std.proofs.Common.{subst, sym, ap, ◌∙◌, ◌≡◌, List, ℕ, [], ◌∷◌, ◌++◌, length, arith}
use Rattle.httparse.specs.Grammar.{HasNoChunkLine, NeverHasChunkLine}
use Rattle.httparse.specs.Spans.{IsChunkLineAt}
use Rattle.client.proofs.BodyLemmas.{line_data, line_last, line_too_much, line_never, line_long}
use Rattle.client.proofs.response_body.after_line.Goals as goal

pub returns-then-size-more-clause-bad : goal.returns-then-size-more-clause-bad
returns-then-size-more-clause-bad c = λ framing bytes content stands.
    let found = rw c.in-Ok-Complete.field-0-is at c.in-Ok-Complete.ensures.complete in
    let at = subst (λ (all : List ℕ). IsChunkLineAt all c.in-Ok-Complete.field-0-0-0 c.in-Ok-Complete.size found.0) (c.bytes.ensures ∙ c.push.ensures) found.1 in
    line_too_much framing bytes content c.args.line c.args.byte c.args.more _ c.in-Ok-Complete.size found.0 at (omega arith) stands

pub returns-then-size-eq0-clause-goes : goal.returns-then-size-eq0-clause-goes
returns-then-size-eq0-clause-goes c = λ framing bytes content stands.
    let found = rw c.in-Ok-Complete.field-0-is at c.in-Ok-Complete.ensures.complete in
    let at = subst (λ (all : List ℕ). IsChunkLineAt all c.in-Ok-Complete.field-0-0-0 c.in-Ok-Complete.size found.0) (c.bytes.ensures ∙ c.push.ensures) found.1 in
    line_last framing bytes content c.args.line c.args.byte c.args.more _ c.in-Ok-Complete.size found.0 at (omega arith) stands

pub returns-else-size-eq0-clause-goes : goal.returns-else-size-eq0-clause-goes
returns-else-size-eq0-clause-goes c = λ framing bytes content stands.
    let found = rw c.in-Ok-Complete.field-0-is at c.in-Ok-Complete.ensures.complete in
    let at = subst (λ (all : List ℕ). IsChunkLineAt all c.in-Ok-Complete.field-0-0-0 c.in-Ok-Complete.size found.0) (c.bytes.ensures ∙ c.push.ensures) found.1 in
    line_data framing bytes content c.args.line c.args.byte c.args.more _ c.in-Ok-Complete.size found.0 at (omega arith) (omega arith) stands

pub returns-then-len-eq-MAX_LINE_LEN-clause-bad : goal.returns-then-len-eq-MAX_LINE_LEN-clause-bad
returns-then-len-eq-MAX_LINE_LEN-clause-bad c = λ framing bytes content stands.
    let none = rw c.in-Ok-Partial.field-0-is at c.in-Ok-Partial.ensures.partial in
    let came = c.bytes.ensures ∙ c.push.ensures in
    line_long framing bytes content c.args.line c.args.byte c.args.more (subst HasNoChunkLine came none)
    (let len : length (c.args.line ++ c.args.byte ∷ []) ≡ length c.push.new.self = ap length (sym c.push.ensures) in omega arith) stands

pub returns-in-Err-clause-bad : goal.returns-in-Err-clause-bad
returns-in-Err-clause-bad c = λ framing bytes content stands.
    line_never framing bytes content c.args.line c.args.byte c.args.more (subst NeverHasChunkLine (c.bytes.ensures ∙ c.push.ensures) c.in-Err.ensures.invalid) stands
