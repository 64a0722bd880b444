-- What ends the command `run`.
use Rattle.std.specs.Prelude.{ℕ, ◌≡◌, ◌≢◌, List, string_bytes}
use Rattle.script.specs.declared.script_fault.ScriptFault.{ScriptFault}
use Rattle.script.specs.declared.script_fault.ScriptFault.TheVariants.{NoMemory}
use Rattle.script.specs.Explanation.{IsExplanation}
use Rattle.running.specs.declared.run_failure.RunFailure.{RunFailure}
use Rattle.running.specs.declared.run_failure.RunFailure.TheVariants.{Read, Script, Refused, Bind, Journal, TooFewFiles, HandedOver, EventLoop, TooFewThreads, Write, OutOfMemory}

-- the failure of a run whose bytes have this fault as a script: the fault with what is said of it, or out of memory
abbrev pub IsScriptFailure : List ℕ → ScriptFault → RunFailure → Type 0
IsScriptFailure bytes fault (Read source cause) = ⊥
IsScriptFailure bytes fault (Script told text) = (told ≡ fault) × (fault ≢ NoMemory) × IsExplanation bytes fault (string_bytes text)
IsScriptFailure bytes fault (Refused line) = ⊥
IsScriptFailure bytes fault (Bind place cause) = ⊥
IsScriptFailure bytes fault (Journal path cause) = ⊥
IsScriptFailure bytes fault TooFewFiles = ⊥
IsScriptFailure bytes fault TooFewThreads = ⊥
IsScriptFailure bytes fault (HandedOver descriptor) = ⊥
IsScriptFailure bytes fault (EventLoop cause) = ⊥
IsScriptFailure bytes fault (Write cause) = ⊥
IsScriptFailure bytes fault OutOfMemory = Unit {0}
