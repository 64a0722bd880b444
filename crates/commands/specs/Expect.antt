-- What is expected of the answer to a call.
use Rattle.std.specs.Prelude.{ℕ, ◌≡◌, ◌==◌, if◌then◌else◌, Option, None, Some, List, [], ◌∷◌, ◌++◌, codes}
use Rattle.web_call.specs.declared.method.Method.{Method}
use Rattle.web_call.specs.declared.method.Method.TheVariants.{Check, Watch}
use Rattle.client.specs.declared.told.Ended.{Ended}
use Rattle.client.specs.declared.told.Told.{Told}

-- the name that health.proto gives to the status of this number, if it gives one
abbrev pub name_of : ℕ → Option (List ℕ)
name_of number =
    if number == 0 then Some (codes "UNKNOWN")
    else if number == 1 then Some (codes "SERVING")
    else if number == 2 then Some (codes "NOT_SERVING")
    else if number == 3 then Some (codes "SERVICE_UNKNOWN")
    else None

-- the last of the statuses has this name
pub record EndsIn (statuses name : List ℕ) : Type 0 where
  pub before : List ℕ
  pub last : ℕ
  pub are : statuses ≡ before ++ last ∷ []
  pub named : name_of last ≡ Some name

-- a Check ended with status 0 of gRPC; a Watch may end as it will
abbrev pub HasEndedWell : Method → Option Ended → Type 0
HasEndedWell Check None = ⊥
HasEndedWell Check (Some ended) = ended.code ≡ 0
HasEndedWell Watch end = Unit {0}

-- what was told is what is expected: the last status has this name, and the call has ended well
pub record IsExpected (method : Method) (name : List ℕ) (told : Told) : Type 0 where
  pub status : EndsIn told.statuses.items name
  pub ended : HasEndedWell method told.end
