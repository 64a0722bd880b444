use Rattle.std.proofs.Common.{length, sym, subst, refl, Some}
use Rattle.record_log.specs.Device.{IsWritten, IsTorn, Follows, Elapses}
use Rattle.record_log.specs.Crashes.{MayLeave, LeftSince}
use Rattle.record_log.specs.Memory.{states_of}
use Rattle.record_log.proofs.CrashLemmas.{write_crash, not_written, unnoted, noted}
use Rattle.record_log.proofs.memory.MemoryDevice.write_at.Goals as goal

pub returns-clause-crash : goal.returns-clause-crash
returns-clause-crash c =
    let past = states_of c.args.self.now.states.items in
    subst (λ l. Follows (IsTorn c.args.at (length c.args.bytes.now)) (MayLeave past) (MayLeave (states_of l))) (sym c.in_ok-insert.ensures.items)
    (write_crash past (record { bytes = c.in_ok-overwritten.field-0.items; write = Some (c.args.at, length c.args.bytes.now) }) c.args.at c.args.bytes.now refl c.requires (subst (λ l. IsWritten l c.args.at c.args.bytes.now c.in_ok-overwritten.field-0.items) c.bytes.ensures c.in_ok-overwritten.ensures))

pub returns-in_err-insert-clause-crash : goal.returns-in_err-insert-clause-crash
returns-in_err-insert-clause-crash c =
    let past = states_of c.args.self.now.states.items in
    let len = length c.args.bytes.now in
    subst (λ l. Follows (IsTorn c.args.at len) (MayLeave past) (MayLeave (states_of l))) (sym c.in_err-insert.ensures.items) (not_written c.args.at len (MayLeave past))

pub returns-in_err-insert-clause-time : goal.returns-in_err-insert-clause-time
returns-in_err-insert-clause-time c =
    let past = states_of c.args.self.now.states.items in
    subst (λ l. Elapses (length past) (length (states_of l)) (LeftSince past) (LeftSince (states_of l)) (MayLeave (states_of l))) (sym c.in_err-insert.ensures.items) (unnoted past)

pub returns-clause-time : goal.returns-clause-time
returns-clause-time c =
    let past = states_of c.args.self.now.states.items in
    subst (λ l. Elapses (length past) (length (states_of l)) (LeftSince past) (LeftSince (states_of l)) (MayLeave (states_of l))) (sym c.in_ok-insert.ensures.items)
    (noted past (record { bytes = c.in_ok-overwritten.field-0.items; write = Some (c.args.at, length c.args.bytes.now) }))
