-- A word of the command line that gives a service its status.
use Rattle.std.specs.Prelude.{◌≡◌, ℕ, Option, None, Some, List, [], ◌∷◌, ◌++◌, codes, String}
use Rattle.std.specs.Borrow.{Bor}
use Rattle.std.specs.Global.{Global}
use Rattle.std.specs.String.{string_bytes}
use Rattle.health_wire.specs.declared.serving.Serving.{Serving}
use Rattle.health_wire.specs.declared.serving.Serving.TheVariants.{Unknown, NotServing, ServiceUnknown, Serving as IsServing}

-- how a word ends that gives this status
abbrev pub ending : Serving → Option (List ℕ)
ending Unknown = Some (codes "=unknown")
ending IsServing = Some (codes "=serving")
ending NotServing = Some (codes "=not_serving")
ending ServiceUnknown = None

-- the word gives the service of this name this status
pub record IsServiceWord (word name : List ℕ) (status : Serving) : Type 0 where
  pub end : List ℕ
  pub end_is : ending status ≡ Some end
  pub parts : word ≡ name ++ end

-- the word gives no service a status
abbrev pub IsNoServiceWord : List ℕ → Type 0
IsNoServiceWord word = (name : List ℕ) (status : Serving) → IsServiceWord word name status → ⊥

-- each word gives the status of the pair in its place
abbrev pub AreServiceWords : List (Bor (List ℕ)) → List (String Global × Serving) → Type 0
AreServiceWords [] [] = Unit {0}
AreServiceWords [] (pair ∷ pairs) = ⊥
AreServiceWords (word ∷ words) [] = ⊥
AreServiceWords (word ∷ words) (pair ∷ pairs) = IsServiceWord word.now (string_bytes pair.0) pair.1 × AreServiceWords words pairs
