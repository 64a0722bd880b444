-- What stands behind one test or another.
use Rattle.std.proofs.Common.{◌≡◌, Bool, true, false, if◌then◌else◌, sym, ap, ◌∙◌}

-- the test holds
pub here : {A : Type 0} (test : Bool) (x y : A) → test ≡ true → x ≡ (if test then x else y)
here test x y is = ap (λ b. if b then x else y) (sym is)

-- it does not
pub behind : {A : Type 0} (test : Bool) (x y z : A) → test ≡ false → z ≡ y → z ≡ (if test then x else y)
behind test x y z is same = same ∙ ap (λ b. if b then x else y) (sym is)
