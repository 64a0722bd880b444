use Rattle.std.proofs.Common.{◌≡◌, ℕ, ◌+◌, List, length, take, drop, ap, subst, arith}
use Rattle.record_log.specs.Device.{IsTorn}
use Rattle.record_log.proofs.DeviceLemmas.{started, goes_on, two_calls}
use Rattle.record_log.proofs.writing.write_synced.Goals as goal

-- a write that was lost whole
lost : (at n : ℕ) (old file : List ℕ) → file ≡ old → IsTorn at n old file
lost at n old file is = record { before = ap (λ l. take at l) is; after = ap (λ l. drop (at + n) l) is; no_shorter = omega (arith, ap length is); no_longer = omega (arith, ap length is) }

pub returns-clause-any_moment : goal.returns-clause-any_moment
returns-clause-any_moment g c =
    let D = g.D.Device in
    let old = c.args.device.now in
    let n = length c.args.bytes.now in
    two_calls D.moment D.left_since old c.write_at.new.self c.sync.new.self (IsTorn c.args.at n (D.contents old)) (D.may_leave c.write_at.new.self) (D.may_leave c.sync.new.self)
    (λ f left. lost c.args.at n (D.contents old) f (c.requires.durable f (g.met.D.Device.only_now old f left)))
    c.write_at.ensures.time
    (λ f left. let before = c.write_at.ensures.crash f left in subst (λ l. IsTorn c.args.at n l f) (c.requires.durable before.0 before.1) before.2)
    c.sync.ensures.time c.sync.ensures.crash

pub returns-in_err-write_at-clause-any_moment : goal.returns-in_err-write_at-clause-any_moment
returns-in_err-write_at-clause-any_moment g c =
    let D = g.D.Device in
    let old = c.args.device.now in
    let n = length c.args.bytes.now in
    let P = IsTorn c.args.at n (D.contents old) in
    goes_on D.moment D.left_since old old c.write_at.new.self P (D.may_leave c.write_at.new.self)
    (started D.moment D.left_since old P (λ f left. lost c.args.at n (D.contents old) f (c.requires.durable f (g.met.D.Device.only_now old f left))))
    c.write_at.ensures.time
    (λ f left. let before = c.write_at.ensures.crash f left in subst (λ l. IsTorn c.args.at n l f) (c.requires.durable before.0 before.1) before.2)
