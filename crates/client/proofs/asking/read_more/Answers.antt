use Rattle.std.proofs.Common.{◌==◌, ℕ, [], take, ap, refl}
use Rattle.std.proofs.lemmas.Bool.{ne_eqb}
use Rattle.client.proofs.AskingLemmas.{Consumes-none, few_read, given_cause, given_fault, going_keeps, none_read, some_read, stopped_fails}
use Rattle.client.proofs.OpenLemmas.{goes_on, was_open}
use Rattle.client.proofs.asking.read_more.Goals as goal

pub returns-in_default-clause-err : goal.returns-in_default-clause-err
returns-in_default-clause-err g c = ([], Consumes-none _ _ c.in_default.ensures.bytes, λ front holds. refl)

pub returns-in_default-clause-read : goal.returns-in_default-clause-read
returns-in_default-clause-read g c = stopped_fails _ _ _ c.in_default.ensures.failed refl

pub returns-then-count-eq0-clause-err : goal.returns-then-count-eq0-clause-err
returns-then-count-eq0-clause-err g c =
    ([], none_read _ _ c.read.new.buf c.in-Ok.count c.if-count-eq0.true c.in-Ok.ensures.bytes.0, λ front holds. refl)

pub returns-then-count-eq0-clause-read : goal.returns-then-count-eq0-clause-read
returns-then-count-eq0-clause-read g c = stopped_fails _ _ _ c.in-Ok.ensures.failed (ap (λ (n : ℕ). n == 0) c.if-count-eq0.true)

pub slice_bounds-give-end-2 : goal.slice_bounds-give-end-2
slice_bounds-give-end-2 g c = c.in-Ok.ensures.bound.1

pub give-requires-clause-some : goal.give-requires-clause-some
give-requires-clause-some g c = some_read c.read.new.buf _ c.in-Ok.ensures.bound.0 c.if-count-eq0.false

pub give-requires-clause-within : goal.give-requires-clause-within
give-requires-clause-within g c = few_read c.read.new.buf _ _ _ c.in-Ok.ensures.bound.0 c.read.auto.buf c.requires.within

pub returns-clause-ok : goal.returns-clause-ok
returns-clause-ok g c =
    let some = some_read c.read.new.buf c.in-Ok.count c.in-Ok.ensures.bound.0 c.if-count-eq0.false in
    let within = few_read c.read.new.buf c.in-Ok.count _ _ c.in-Ok.ensures.bound.0 c.read.auto.buf c.requires.within in
    goes_on c.args.reply (take c.in-Ok.count c.read.new.buf) _ _ some within c.in-Ok.ensures.bytes.0 c.give.result c.give.ensures.ok c.give.ensures.grows

pub returns-clause-err : goal.returns-clause-err
returns-clause-err g c =
    let some = some_read c.read.new.buf c.in-Ok.count c.in-Ok.ensures.bound.0 c.if-count-eq0.false in
    let within = few_read c.read.new.buf c.in-Ok.count _ _ c.in-Ok.ensures.bound.0 c.read.auto.buf c.requires.within in
    given_fault c.give.result _ _ (take c.in-Ok.count c.read.new.buf) c.args.reply c.in-Ok.ensures.bytes.0
    (λ front holds. was_open c.args.reply front (take c.in-Ok.count c.read.new.buf) some within holds) c.give.ensures.bad c.give.ensures.http c.give.ensures.faults

pub returns-clause-read : goal.returns-clause-read
returns-clause-read g c =
    given_cause c.give.result _ _ c.give.ensures.faults (going_keeps _ _ _ c.in-Ok.ensures.failed (ne_eqb c.in-Ok.count 0 c.if-count-eq0.false))
