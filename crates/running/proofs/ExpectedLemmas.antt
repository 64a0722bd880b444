-- What the script of a run expects, by what is read of its bytes.
use Rattle.std.proofs.Common.{◌≡◌, ◌≢◌, ℕ, List, []}
use Rattle.std.specs.Prelude.{Vec, Result, Ok, Err, IfOk}
use Rattle.std.specs.Global.{Global}
use Rattle.std.specs.declared.alloc.AllocError.{AllocError}
use Rattle.script.specs.declared.expected.Expected.{Expected}
use Rattle.script.specs.declared.script.Mode.TheVariants.{Run}
use Rattle.script.specs.declared.script_fault.ScriptFault.{ScriptFault}
use Rattle.script.specs.declared.script_fault.ScriptFault.TheVariants.{NoMemory}
use Rattle.script.specs.Expected.{expected_first}
use Rattle.script.specs.Script.{ScriptParts, IsScript, IsScriptFault}
use Rattle.script.proofs.OneScript.{script_or_fault}
use Rattle.live_run.specs.declared.refused_line.RefusedLine.{RefusedLine}
use Rattle.running.specs.Expected.{IsExpectedBy, ByNone, ByScript}

-- what is found of a script's lines `expect`
abbrev pub Found : Type 0
Found = Result (Result (Vec Expected Global) RefusedLine) AllocError

pub expected_so : (bytes : List ℕ) (script : ScriptParts) (found : Found) → IsScript Run bytes script
    → IfOk found (λ some. IfOk some (λ expected. expected.items ≡ expected_first script.names script.lines script.expectations 16))
    → IfOk found (λ some. IfOk some (λ expected. IsExpectedBy bytes expected.items))
expected_so bytes script (Ok (Ok expected)) is same = ByScript script is same
expected_so bytes script (Ok (Err line)) is same = tt
expected_so bytes script (Err error) is same = tt

-- of bytes that are no script nothing is found
pub nothing_so : (bytes : List ℕ) (fault : ScriptFault) (found : Found) → (fault ≢ NoMemory → IsScriptFault Run bytes fault)
    → IfOk found (λ some. IfOk some (λ expected. (fault ≢ NoMemory) × (expected.items ≡ [])))
    → IfOk found (λ some. IfOk some (λ expected. IsExpectedBy bytes expected.items))
nothing_so bytes fault (Ok (Ok expected)) faulty none = ByNone (λ script is. script_or_fault Run bytes script fault is (faulty none.0)) none.1
nothing_so bytes fault (Ok (Err line)) faulty none = tt
nothing_so bytes fault (Err error) faulty none = tt
