-- The command `replay`.
use Rattle.std.specs.Prelude.{ℕ, ◌≢◌, List}
use Rattle.commands.specs.declared.fault.Fault.{Fault}
use Rattle.commands.specs.declared.fault.Fault.TheVariants.{BadHex, BadService, Script, Read, Write, Bind, Crew, SeatsMissing, NameTooLong, Connect, TimedOut, Ask, OutOfMemory}
use Rattle.script.specs.declared.script.Mode.TheVariants.{Replay}
use Rattle.script.specs.declared.script_fault.ScriptFault.TheVariants.{NoMemory}
use Rattle.script.specs.Script.{ScriptParts, IsScript, IsScriptFault}
use Rattle.script.specs.Run.{IsScriptRun}

-- the bytes are a script to replay, and the output is that of a run of it
pub record Replays (bytes output : List ℕ) : Type 0 where
  pub script : ScriptParts
  pub is : IsScript Replay bytes script
  pub runs : IsScriptRun script output

-- a fault that ends a replay of the bytes: their own first one as a script, or out of memory
abbrev pub EndsReplay : List ℕ → Fault → Type 0
EndsReplay bytes BadHex = ⊥
EndsReplay bytes BadService = ⊥
EndsReplay bytes (Script fault) = fault ≢ NoMemory → IsScriptFault Replay bytes fault
EndsReplay bytes Read = ⊥
EndsReplay bytes Write = ⊥
EndsReplay bytes Bind = ⊥
EndsReplay bytes (Crew why) = ⊥
EndsReplay bytes SeatsMissing = ⊥
EndsReplay bytes NameTooLong = ⊥
EndsReplay bytes Connect = ⊥
EndsReplay bytes TimedOut = ⊥
EndsReplay bytes (Ask fault) = ⊥
EndsReplay bytes OutOfMemory = Unit {0}
