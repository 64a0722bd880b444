use Rattle.std.proofs.Common.{◌++◌, ◌∙◌, ap, sym, append_assoc}
use Rattle.reactor.proofs.laws.histories_chain.Goals as goal

pub returns : goal.returns
returns c a b d p q = record {
  newer = q.newer ++ p.newer;
  is = q.is ∙ (ap (λ older. q.newer ++ older) p.is ∙ sym (append_assoc q.newer p.newer a));
}
