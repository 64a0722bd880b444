use Rattle.std.proofs.Common.{[]}
use Rattle.record_log.proofs.CrashLemmas.{unnoted, noted_after}
use Rattle.record_log.proofs.file_device.FileDeviceDevice.sync.Goals as goal

pub returns-then-self-gt0-clause-time : goal.returns-then-self-gt0-clause-time
returns-then-self-gt0-clause-time c = unnoted c.args.self.now.past.states

pub returns-in-Err-clause-time : goal.returns-in-Err-clause-time
returns-in-Err-clause-time c = unnoted c.args.self.now.past.states

pub returns-clause-time : goal.returns-clause-time
returns-clause-time c = noted_after _ _ [] [] c.note.ensures
