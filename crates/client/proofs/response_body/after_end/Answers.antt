use Rattle.std.proofs.Common.{subst, sym, ap, ◌∙◌, ◌≡◌, ◌≢◌, List, ℕ, [], ◌++◌, codes, length, arith, length-append}
use Rattle.client.specs.declared.response_body.Next.TheVariants.{End, Line}
use Rattle.client.specs.ResponseBody.{Stands}
use Rattle.client.proofs.BodyLemmas.{differ, end_more, end_bad, end_line}
use Rattle.client.proofs.response_body.after_end.Goals as goal

pub returns-then-len-clause-goes : goal.returns-then-len-clause-goes
returns-then-len-clause-goes c = λ framing bytes content stands.
    let piece = c.args.piece.now in
    subst (λ (kept : List ℕ). Stands framing (bytes ++ piece) (content ++ []) (End kept) c.args.more) (sym c.push_all.ensures)
    (end_more framing bytes content c.args.end piece c.args.more (let short : length (c.args.end ++ piece) ≡ length c.push_all.new.self = ap length (sym c.push_all.ensures) in omega arith) stands)

pub returns-then-ne-clause-bad : goal.returns-then-ne-clause-bad
returns-then-ne-clause-bad c = λ framing bytes content stands.
    end_bad framing bytes content c.args.end c.args.piece.now c.args.more
    (let len : length (c.args.end ++ c.args.piece.now) ≡ length c.push_all.new.self = ap length (sym c.push_all.ensures) in omega (arith, length-append c.args.end c.args.piece.now))
    (subst (λ (all : List ℕ). all ≢ codes "\r\n") (c.bytes.ensures ∙ c.push_all.ensures) ((differ c.bytes.result.now (codes "\r\n") c.ne.result c.ne.ensures).1 c.if-ne.true))
    stands

pub returns-clause-goes : goal.returns-clause-goes
returns-clause-goes c = λ framing bytes content stands.
    let piece = c.args.piece.now in
    subst (λ (kept : List ℕ). Stands framing (bytes ++ piece) (content ++ []) (Line kept) c.args.more) (sym c.new.ensures)
    (end_line framing bytes content c.args.end piece c.args.more
    (sym c.push_all.ensures ∙ sym c.bytes.ensures ∙ (differ c.bytes.result.now (codes "\r\n") c.ne.result c.ne.ensures).0 c.if-ne.false)
    stands)
