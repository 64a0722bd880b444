use Rattle.std.proofs.Common.{length, None, refl, sym, subst, ap}
use Rattle.std.proofs.lemmas.Result.{IfOk-from_err}
use Rattle.record_log.specs.Device.{Elapses}
use Rattle.record_log.specs.Crashes.{MayLeave, LeftSince, contents_of}
use Rattle.record_log.specs.Memory.{states_of}
use Rattle.record_log.proofs.DeviceLemmas.{no_error}
use Rattle.record_log.proofs.CrashLemmas.{unnoted, noted}
use Rattle.record_log.proofs.memory.MemoryDevice.sync.Goals as goal

pub returns-in_err-count-clause-durable : goal.returns-in_err-count-clause-durable
returns-in_err-count-clause-durable c = IfOk-from_err _ _ c.from_residual.ensures.0

pub returns-in_err-count-clause-contents : goal.returns-in_err-count-clause-contents
returns-in_err-count-clause-contents c = refl

pub returns-in_err-count-clause-crash : goal.returns-in_err-count-clause-crash
returns-in_err-count-clause-crash c = λ file left. left

pub returns-in_err-count-clause-time : goal.returns-in_err-count-clause-time
returns-in_err-count-clause-time c = unnoted (states_of c.args.self.now.states.items)

pub returns-in_err-to_vec-clause-durable : goal.returns-in_err-to_vec-clause-durable
returns-in_err-to_vec-clause-durable c = IfOk-from_err _ _ c.from_residual-in_err-to_vec.ensures.0

pub returns-in_err-to_vec-clause-contents : goal.returns-in_err-to_vec-clause-contents
returns-in_err-to_vec-clause-contents c = refl

pub returns-in_err-to_vec-clause-crash : goal.returns-in_err-to_vec-clause-crash
returns-in_err-to_vec-clause-crash c = λ file left. left

pub returns-in_err-to_vec-clause-time : goal.returns-in_err-to_vec-clause-time
returns-in_err-to_vec-clause-time c = unnoted (states_of c.args.self.now.states.items)

pub returns-in_err-insert-clause-durable : goal.returns-in_err-insert-clause-durable
returns-in_err-insert-clause-durable c = IfOk-from_err _ _ c.from_residual-in_err-insert.ensures.0

pub returns-in_err-insert-clause-contents : goal.returns-in_err-insert-clause-contents
returns-in_err-insert-clause-contents c = ap (λ l. contents_of (states_of l)) c.in_err-insert.ensures.items

pub returns-in_err-insert-clause-crash : goal.returns-in_err-insert-clause-crash
returns-in_err-insert-clause-crash c = λ file left. subst (λ l. MayLeave (states_of l) file) c.in_err-insert.ensures.items left

pub returns-in_err-insert-clause-time : goal.returns-in_err-insert-clause-time
returns-in_err-insert-clause-time c =
    let past = states_of c.args.self.now.states.items in
    subst (λ l. Elapses (length past) (length (states_of l)) (LeftSince past) (LeftSince (states_of l)) (MayLeave (states_of l))) (sym c.in_err-insert.ensures.items) (unnoted past)

pub returns-clause-time : goal.returns-clause-time
returns-clause-time c =
    let past = states_of c.args.self.now.states.items in
    subst (λ l. Elapses (length past) (length (states_of l)) (LeftSince past) (LeftSince (states_of l)) (MayLeave (states_of l))) (sym c.in_ok-insert.ensures.items)
    (noted past (record { bytes = c.in_ok-to_vec.field-0.items; write = None }))

pub returns-clause-counted : goal.returns-clause-counted
returns-clause-counted c = record { later = c.count.ensures.later; failed = λ is. no_error _ _ is }
