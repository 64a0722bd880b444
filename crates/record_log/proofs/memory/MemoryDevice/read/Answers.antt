use Rattle.record_log.specs.Memory.{states_of}
use Rattle.record_log.proofs.CrashLemmas.{unnoted}
use Rattle.record_log.proofs.memory.MemoryDevice.read.Goals as goal

pub returns-clause-time : goal.returns-clause-time
returns-clause-time c = unnoted (states_of c.args.self.now.states.items)
