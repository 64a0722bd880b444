use Rattle.std.proofs.Common.{sym, subst}
use Rattle.reactor.specs.Table.{IsTable}
use Rattle.reactor.proofs.Tables.{accounted, put_back, watch_admitted}
use Rattle.reactor.proofs.table.Table.admit.Goals as goal

pub invariant_of-self-then-place : goal.invariant_of-self-then-place
invariant_of-self-then-place g c =
    subst (λ places. IsTable places c.self.inside.watches c.self.inside.counted c.self.inside.taken.items c.self.inside.ended.items c.self.inside.most c.self.inside.most_watches)
    (sym (put_back c.self.inside.places.slots c.args.key c.in-Some.place.now c.in-Some.ensures.value)) c.self.invariant

pub returns-then-place-clause-accounted : goal.returns-then-place-clause-accounted
returns-then-place-clause-accounted g c = accounted (invariant_of-self-then-place g c)

pub invariant_of-self-then-self : goal.invariant_of-self-then-self
invariant_of-self-then-self g c =
    subst (λ places. IsTable places c.self.inside.watches c.self.inside.counted c.self.inside.taken.items c.self.inside.ended.items c.self.inside.most c.self.inside.most_watches)
    (sym (put_back c.self.inside.places.slots c.args.key c.in-Some.place.now c.in-Some.ensures.value)) c.self.invariant

pub returns-then-self-clause-accounted : goal.returns-then-self-clause-accounted
returns-then-self-clause-accounted g c = accounted (invariant_of-self-then-self g c)

pub invariant_of-self-2 : goal.invariant_of-self-2
invariant_of-self-2 g c = watch_admitted c.args.key c.in-Some.place.now c.self.invariant c.in-Some.ensures.value c.if-place.false c.if-self.false

pub returns-clause-accounted : goal.returns-clause-accounted
returns-clause-accounted g c = accounted (invariant_of-self-2 g c)
