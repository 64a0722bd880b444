use Rattle.std.proofs.Common.{subst, sym, List, ℕ, []}
use Rattle.client.specs.declared.http_framing.Framing.TheVariants.{Chunked}
use Rattle.client.specs.declared.response_body.Next.TheVariants.{Line}
use Rattle.client.specs.ResponseBody.{Stands}
use Rattle.client.proofs.BodyLemmas.{begun_chunks}
use Rattle.client.proofs.response_body.in_chunks.Goals as goal

pub returns-clause-stands : goal.returns-clause-stands
returns-clause-stands c = subst (λ (kept : List ℕ). Stands (Chunked c.args.most) [] [] (Line kept) c.args.most) (sym c.new.ensures) (begun_chunks c.args.most)
