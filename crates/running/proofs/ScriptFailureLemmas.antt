-- What ends a setup whose bytes are no script.
use Rattle.std.proofs.Common.{ℕ, ◌≢◌, List}
use Rattle.script.specs.declared.script.Mode.TheVariants.{Run}
use Rattle.script.specs.declared.script_fault.ScriptFault.{ScriptFault}
use Rattle.script.specs.declared.script_fault.ScriptFault.TheVariants.{NoMemory}
use Rattle.script.specs.Script.{IsScriptFault}
use Rattle.running.specs.declared.run_failure.RunFailure.{RunFailure}
use Rattle.running.specs.declared.run_failure.RunFailure.TheVariants.{Read, Script, Refused, Bind, Journal, TooFewFiles, HandedOver, EventLoop, TooFewThreads, Write, OutOfMemory}
use Rattle.running.specs.Run.{EndsSetUp}
use Rattle.running.specs.RunFailure.{IsScriptFailure}

-- the failure of bytes that are no script
pub script_ends : (bytes : List ℕ) (fault : ScriptFault) (failure : RunFailure) → (fault ≢ NoMemory → IsScriptFault Run bytes fault) → IsScriptFailure bytes fault failure → EndsSetUp bytes failure
script_ends bytes fault (Read source cause) wrong is = is
script_ends bytes fault (Script told text) wrong is = rw is.0 (wrong is.1, is.2)
script_ends bytes fault (Refused line) wrong is = absurd is
script_ends bytes fault (Bind place cause) wrong is = is
script_ends bytes fault (Journal path cause) wrong is = absurd is
script_ends bytes fault TooFewFiles wrong is = absurd is
script_ends bytes fault TooFewThreads wrong is = absurd is
script_ends bytes fault (HandedOver descriptor) wrong is = absurd is
script_ends bytes fault (EventLoop cause) wrong is = is
script_ends bytes fault (Write cause) wrong is = is
script_ends bytes fault OutOfMemory wrong is = tt
