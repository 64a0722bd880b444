use Rattle.record_log.proofs.CrashLemmas.{unnoted}
use Rattle.record_log.proofs.file_device.FileDeviceDevice.read.Goals as goal

pub returns-in-Some-clause-time : goal.returns-in-Some-clause-time
returns-in-Some-clause-time c = unnoted c.args.self.now.past.states

pub returns-in-None-clause-time : goal.returns-in-None-clause-time
returns-in-None-clause-time c = unnoted c.args.self.now.past.states
