use Rattle.std.proofs.Common.{rules, ◌≡◌, ◌∷◌, ◌≤◌, take, length, Some, subst}
use Rattle.record_log.specs.Device.{IsWritten}
use Rattle.record_log.specs.Crashes.{contents_of}
use Rattle.record_log.specs.Memory.{states_of}
use Rattle.record_log.proofs.CrashLemmas.{torn_now}
use Rattle.record_log.proofs.memory.Memory.crashed.Goals as goal

pub returns : goal.returns
returns c =
    let left = take c.min.result c.args.torn.now in
    let are : (states_of c.args.self.now.states.items) ≡ record { bytes = c.in-Some.was.now.bytes.items; write = c.in-Some.was.now.write } ∷ states_of c.in-Some.past.now = search rules in
    let write : c.in-Some.was.now.write ≡ Some (c.in-Some-write.at, c.in-Some-write.len) = search rules in
    let place : c.in-Some-write.at ≤ length (contents_of (states_of c.in-Some.past.now)) = search rules in
    let few : length left ≤ c.in-Some-write.len = search rules in
    let written = subst (λ l. IsWritten l c.in-Some-write.at left c.in_ok-left.left.items) c.newest-before.ensures c.in_ok-left.ensures in
    torn_now (states_of c.args.self.now.states.items) (states_of c.in-Some.past.now) (record { bytes = c.in-Some.was.now.bytes.items; write = c.in-Some.was.now.write }) c.in-Some-write.at c.in-Some-write.len left c.in_ok-left.left.items are write place few written
