-- What a vector holds once a slice of all of it has been written through.
use Rattle.std.proofs.Common.{◌≡◌, ℕ, List, ◌++◌, length, take, drop, ap, ◌∙◌, arith}
use Rattle.std.proofs.lemmas.List.{append-nil, take_all, drop_all}

pub written_back : {X : Type 0} (old now new : List X) (len : ℕ) → len ≡ length old → now ≡ old → length new ≡ length now → take len (new ++ drop (length new) old) ≡ new
written_back old now new len long is kept =
    let same : length new ≡ length old = kept ∙ ap length is in
    ap (λ rest. take len (new ++ rest)) (drop_all (length new) old (omega (arith, same))) ∙ (ap (take len) (append-nil new) ∙ take_all len new (omega (arith, same, long)))
