use Rattle.std.proofs.Common.{arith, subst, sym}
use Rattle.reactor.specs.Table.{IsAccounted, IsTable}
use Rattle.reactor.proofs.Tables.{accounted, taken_in}
use Rattle.reactor.proofs.table.Table.insert.Goals as goal

pub invariant_of-self : goal.invariant_of-self
invariant_of-self g c =
    rw c.and-self-inside.ensures (taken_in c.self.inside.places c.insert.new.self _ _ c.self.invariant
    (omega (arith, c.if-len-self.false, c.len.ensures)) c.in-Ok.ensures.was_vacant c.in-Ok.ensures.updates c.in-Ok.ensures.len)

pub returns-in-Ok-clause-accounted : goal.returns-in-Ok-clause-accounted
returns-in-Ok-clause-accounted g c = accounted (invariant_of-self g c)

pub returns-then-len-self-clause-accounted : goal.returns-then-len-self-clause-accounted
returns-then-len-self-clause-accounted g c = subst IsAccounted c.self.view_is (accounted c.self.invariant)

pub returns-then-vacant_key-gt-LAST_KEY-clause-accounted : goal.returns-then-vacant_key-gt-LAST_KEY-clause-accounted
returns-then-vacant_key-gt-LAST_KEY-clause-accounted g c = subst IsAccounted c.self.view_is (accounted c.self.invariant)

pub invariant_of-self-in-Err : goal.invariant_of-self-in-Err
invariant_of-self-in-Err g c =
    subst (λ places. IsTable places.slots c.self.inside.watches c.self.inside.counted c.self.inside.taken.items c.self.inside.ended.items c.self.inside.most c.self.inside.most_watches)
    (sym c.in-Err.ensures.err) c.self.invariant

pub returns-in-Err-clause-accounted : goal.returns-in-Err-clause-accounted
returns-in-Err-clause-accounted g c = accounted (invariant_of-self-in-Err g c)
