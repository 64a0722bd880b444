use Rattle.std.proofs.Common.{subst, sym, List, ℕ, ◌++◌, ◌-◌, length, arith}
use Rattle.client.specs.declared.response_body.Next.TheVariants.{End}
use Rattle.client.specs.ResponseBody.{Stands}
use Rattle.client.proofs.BodyLemmas.{data_more, data_end}
use Rattle.client.proofs.response_body.after_data.Goals as goal

pub returns-then-piece-left-clause-goes : goal.returns-then-piece-left-clause-goes
returns-then-piece-left-clause-goes c = λ framing bytes content stands.
    let piece = c.args.piece.now in
    subst (λ (kept : List ℕ). Stands framing (bytes ++ piece) (content ++ piece) (End kept) (c.args.more - length piece)) (sym c.new.ensures)
    (data_end framing bytes content piece c.args.left c.args.more c.if-piece-left.true (omega arith) stands)

pub returns-clause-goes : goal.returns-clause-goes
returns-clause-goes c = λ framing bytes content stands.
    data_more framing bytes content c.args.piece.now c.args.left c.args.more (omega arith) (omega arith) stands
