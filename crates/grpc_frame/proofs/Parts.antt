-- Lists written part by part.
use Rattle.std.proofs.Common.{ℕ, ◌≡◌, List, ◌++◌, append_assoc}

-- what two writes append, one after the other, is the two parts joined
pub joined : (old now done first second : List ℕ) → now ≡ old ++ first → done ≡ now ++ second → done ≡ old ++ (first ++ second)
joined old now done first second one two = rw (two, one) (append_assoc old first second)
