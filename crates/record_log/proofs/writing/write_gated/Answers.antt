use Rattle.std.proofs.Common.{◌+◌, inl, subst, length, arith}
use Rattle.std.proofs.lemmas.Result.{on_ok_weaker}
use Rattle.record_log.specs.Device.{IsWritten, IsTorn}
use Rattle.record_log.specs.Gate.{IsTornBehind}
use Rattle.record_log.proofs.DeviceLemmas.{counted_since, then, widened}
use Rattle.record_log.proofs.GateLemmas.{gate_stays, gated, torn_gate}
use Rattle.record_log.proofs.writing.write_gated.Goals as goal

pub overflow_add-at : goal.overflow_add-at
overflow_add-at g c = omega (arith, c.requires.gate, g.met.D.Device.bounded c.args.device.now)

pub write_synced-requires-clause-place : goal.write_synced-requires-clause-place
write_synced-requires-clause-place g c = omega (arith, c.requires.gate)

pub write_synced-requires-clause-durable : goal.write_synced-requires-clause-durable
write_synced-requires-clause-durable g c = c.requires.durable

pub returns-in_err-write_synced-clause-any_moment : goal.returns-in_err-write_synced-clause-any_moment
returns-in_err-write_synced-clause-any_moment g c =
    let contents = g.D.Device.contents in
    widened g.D.Device.moment g.D.Device.left_since _ _ (IsTorn (c.args.at + 1) (length c.split_at.result.1.now) (contents c.args.device.now)) (IsTornBehind (contents c.args.device.now) c.args.at c.args.text.now) c.write_synced.ensures.any_moment
    (λ f torn. inl torn.before)

pub write_synced-requires-2-clause-place : goal.write_synced-requires-2-clause-place
write_synced-requires-2-clause-place g c =
    let contents = g.D.Device.contents in
    let holds = subst (λ l. IsWritten (contents c.args.device.now) (c.args.at + 1) l (contents c.write_synced.new.device)) c.split_at.ensures.back c.in_ok-write_synced.ensures.written in
    let stays = gate_stays _ _ c.args.text.now c.args.at c.requires.gate holds in
    omega (arith, stays)

pub write_synced-requires-2-clause-durable : goal.write_synced-requires-2-clause-durable
write_synced-requires-2-clause-durable g c = c.in_ok-write_synced.ensures.durable

pub returns-clause-written : goal.returns-clause-written
returns-clause-written g c =
    let contents = g.D.Device.contents in
    let mid = contents c.write_synced.new.device in
    let new = contents c.write_synced-2.new.device in
    let holds = subst (λ l. IsWritten (contents c.args.device.now) (c.args.at + 1) l mid) c.split_at.ensures.back c.in_ok-write_synced.ensures.written in
    on_ok_weaker c.write_synced-2.result
    (λ first. gated _ mid new c.args.text.now c.args.at c.requires.gate c.requires.some holds (subst (λ l. IsWritten mid c.args.at l new) c.split_at.ensures.front first))
    c.write_synced-2.ensures.written

pub returns-clause-durable : goal.returns-clause-durable
returns-clause-durable g c = c.write_synced-2.ensures.durable

pub returns-clause-counted : goal.returns-clause-counted
returns-clause-counted g c = counted_since _ _ _ _ c.write_synced.ensures.counted.later c.write_synced-2.ensures.counted

pub returns-clause-any_moment : goal.returns-clause-any_moment
returns-clause-any_moment g c =
    let contents = g.D.Device.contents in
    let first = c.in_ok-write_synced.ensures.any_moment in
    let second = c.write_synced-2.ensures.any_moment in
    let holds = subst (λ l. IsWritten (contents c.args.device.now) (c.args.at + 1) l (contents c.write_synced.new.device)) c.split_at.ensures.back c.in_ok-write_synced.ensures.written in
    then g.D.Device.moment g.D.Device.left_since _ _ _ _ _ (IsTornBehind (contents c.args.device.now) c.args.at c.args.text.now) first second
    (λ f torn. inl torn.before)
    (λ f torn. torn_gate (contents c.args.device.now) (contents c.write_synced.new.device) c.args.text.now c.args.at c.requires.gate holds f
    (subst (λ n. IsTorn c.args.at n (contents c.write_synced.new.device) f) c.split_at.ensures.front_len torn))
