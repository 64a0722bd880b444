-- Answers by which a server says that what a line asked for was not done.
use Rattle.std.specs.Prelude.{ℕ, ◌≡◌, ◌⊎◌, List, ◌++◌, codes}

-- a change was refused, for a reason that stands behind
pub record IsRefusedChange (answer : List ℕ) : Type 0 where
  pub reason : List ℕ
  pub is : answer ≡ codes "refused " ++ reason

-- the answer is one of seven texts
abbrev pub IsRefusal : List ℕ → Type 0
IsRefusal answer =
    (answer ≡ codes "missing") ⊎ (answer ≡ codes "wrong kind") ⊎ (answer ≡ codes "ignored") ⊎ (answer ≡ codes "not allowed") ⊎ (answer ≡ codes "bad line")
    ⊎ (answer ≡ codes "line too long") ⊎ (answer ≡ codes "not a session")

-- a change was refused, or the answer is one of seven texts
abbrev pub IsRefused : List ℕ → Type 0
IsRefused answer = IsRefusedChange answer ⊎ IsRefusal answer
