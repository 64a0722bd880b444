-- What the script of a run expects to be heard.
use Rattle.std.specs.Prelude.{ℕ, ◌≡◌, List, [], Some}
use Rattle.script.specs.declared.expected.Expected.{Expected}
use Rattle.script.specs.declared.script.Mode.TheVariants.{Run}
use Rattle.script.specs.Expected.{expected_first, first_refused}
use Rattle.script.specs.Script.{ScriptParts, IsScript}
use Rattle.live_run.specs.declared.refused_line.RefusedLine.{RefusedLine}

-- the bytes are a script to run, which expects this behind its last line; or they are none, and nothing is expected
pub data IsExpectedBy (bytes : List ℕ) (expected : List Expected) : Type 0 where
  ByScript : (script : ScriptParts) → IsScript Run bytes script → expected ≡ expected_first script.names script.lines script.expectations 16 → IsExpectedBy bytes expected
  ByNone : ((script : ScriptParts) → ¬ IsScript Run bytes script) → expected ≡ [] → IsExpectedBy bytes expected

-- the bytes are a script to run, of whose lines `expect` this is the first that does not stand
pub record IsUnexpected (bytes : List ℕ) (line : RefusedLine) : Type 0 where
  pub script : ScriptParts
  pub is : IsScript Run bytes script
  pub first : first_refused script.names script.lines script.expectations ≡ Some (record { number = line.number; answer = line.answer })
