use Rattle.std.proofs.Common.{◌≡◌, ◌+◌, ◌%◌, [], ◌∷◌, ◌++◌, arith, rules}
use Rattle.health_wire.proofs.PutLemmas.{put_more, put_last}
use Rattle.health_wire.proofs.varint.put_varint.Goals as goal

pub loop-rest-preserved : goal.loop-rest-preserved
loop-rest-preserved c =
    let pushed : c.push.new.self.items ≡ c.loop-rest.out.items ++ (c.loop-rest.rest % 128 + 128) ∷ [] = search rules in
    put_more _ _ _ _ _ (omega arith) pushed c.loop-rest.invariant

pub returns : goal.returns
returns c = put_last _ _ _ _ _ (omega arith) (omega arith) c.in_ok-push-2.ensures.items c.loop-rest.invariant
