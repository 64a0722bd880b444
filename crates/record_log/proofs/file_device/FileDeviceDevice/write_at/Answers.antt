use Rattle.std.proofs.Common.{◌^◌, [], ◌∷◌, length, sym, subst, arith}
use Rattle.record_log.specs.Device.{IsTorn, Follows}
use Rattle.record_log.specs.Crashes.{MayLeave}
use Rattle.record_log.proofs.DeviceLemmas.{counted_error}
use Rattle.record_log.proofs.CrashLemmas.{not_written, noted_crash, unnoted, noted_after, bounded_after}
use Rattle.record_log.proofs.file_device.FileDeviceDevice.write_at.Goals as goal

pub returns-then-self-gt0-clause-crash : goal.returns-then-self-gt0-clause-crash
returns-then-self-gt0-clause-crash c = not_written c.args.at (length c.args.bytes.now) (MayLeave c.args.self.now.past.states)

pub returns-then-self-gt0-clause-time : goal.returns-then-self-gt0-clause-time
returns-then-self-gt0-clause-time c = unnoted c.args.self.now.past.states

pub returns-in-Ok-clause-crash : goal.returns-in-Ok-clause-crash
returns-in-Ok-clause-crash c =
    let past = c.args.self.now.past.states in
    subst (λ l. Follows (IsTorn c.args.at (length c.args.bytes.now)) (MayLeave past) (MayLeave l)) (sym c.note.ensures) (noted_crash past c.args.at c.args.bytes.now c.requires)

pub returns-in-Ok-clause-time : goal.returns-in-Ok-clause-time
returns-in-Ok-clause-time c = noted_after _ _ (c.args.at ∷ []) c.args.bytes.now c.note.ensures

pub returns-in-Err-clause-crash : goal.returns-in-Err-clause-crash
returns-in-Err-clause-crash c =
    let past = c.args.self.now.past.states in
    subst (λ l. Follows (IsTorn c.args.at (length c.args.bytes.now)) (MayLeave past) (MayLeave l)) (sym c.note.ensures) (noted_crash past c.args.at c.args.bytes.now c.requires)

pub returns-in-Err-clause-counted : goal.returns-in-Err-clause-counted
returns-in-Err-clause-counted c = counted_error _ _ _ c.failed-in-Err.ensures.later c.failed-in-Err.ensures.counted

pub returns-in-Err-clause-time : goal.returns-in-Err-clause-time
returns-in-Err-clause-time c = noted_after _ _ (c.args.at ∷ []) c.args.bytes.now c.note.ensures

pub invariant_of-self-in-Ok : goal.invariant_of-self-in-Ok
invariant_of-self-in-Ok c = record {
  read = λ x is. cc is;
  bounded = bounded_after c.args.self.now.past.states _ c.args.at (2 ^ 63) c.args.bytes.now c.note.ensures c.requires c.args.self.now.bounded (omega (arith, c.if-bytes-at.false, c.requires, c.args.self.now.bounded));
}

pub invariant_of-self-in-Err : goal.invariant_of-self-in-Err
invariant_of-self-in-Err c = record {
  read = λ x is. cc is;
  bounded = bounded_after c.args.self.now.past.states _ c.args.at (2 ^ 63) c.args.bytes.now c.note.ensures c.requires c.args.self.now.bounded (omega (arith, c.if-bytes-at.false, c.requires, c.args.self.now.bounded));
}
