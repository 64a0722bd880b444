-- Where the records of a file begin.
use Rattle.std.proofs.Common.{◌≡◌, inr, ℕ, ◌+◌, ◌<◌, List, length, take, drop, Vec, sym, ap, ◌∙◌, arith, take-append-drop}
use Rattle.std.specs.declared.alloc.Global.{Global}
use Rattle.std.proofs.lemmas.List.{length-map, map-append, take-map}
use Rattle.record_log.specs.Log.{StandsFor, blocks, texts}
use Rattle.record_log.proofs.LogLemmas.{length-blocks-append}
use Rattle.journal_lines.specs.Damage.{IsFaultAt}

module _ (found : List (Vec ℕ Global)) (n : ℕ) where
  -- the blocks of the first records, and of the others
  pub in_two : length (blocks (texts found)) ≡ length (blocks (texts (take n found))) + length (blocks (texts (drop n found)))
  in_two = ap (λ (l : List (Vec ℕ Global)). length (blocks (texts l))) (sym (take-append-drop n found))
      ∙ ap (λ (l : List (List ℕ)). length (blocks l)) (map-append (λ (e : Vec ℕ Global). e.items) (take n found) (drop n found))
      ∙ length-blocks-append (texts (take n found)) (texts (drop n found))

  -- a record of the file begins at this place
  pub fault_at : (file : List ℕ) (at : ℕ) → StandsFor file (texts found) → n < length found → at ≡ length (blocks (texts (take n found))) → IsFaultAt file at
  fault_at file at stands less is = inr (
    texts found,
    n,
    stands,
    omega (arith, less, length-map found (λ (e : Vec ℕ Global). e.items)),
    is ∙ ap (λ (l : List (List ℕ)). length (blocks l)) (sym (take-map (λ (e : Vec ℕ Global). e.items) n found)),
  )
