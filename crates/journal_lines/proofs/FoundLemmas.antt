-- What stands behind a preface.
use Rattle.std.proofs.Common.{◌≡◌, ℕ, suc, ◌+◌, ◌<◌, List, [], ◌∷◌, ◌++◌, length, drop, Vec, refl, sym, ap, ◌∙◌, subst, arith}
use Rattle.std.specs.declared.alloc.Global.{Global}
use Rattle.std.proofs.lemmas.List.{drop_at, drop-map, length-drop, length-map}
use Rattle.record_log.specs.Log.{texts}
use Rattle.entry_record.specs.declared.stored.Stored.{Stored}
use Rattle.journal_store.specs.Preface.{Front, BeginsWith, preface_of}
use Rattle.journal_store.specs.Read.{AreFound, AreRead}

-- there are as many entries as records
read_length : (records : List (List ℕ)) (stored : List Stored) → AreRead records stored → length records ≡ length stored
read_length [] [] read = refl
read_length [] (one ∷ stored) read = absurd read
read_length (bytes ∷ records) [] read = absurd read
read_length (bytes ∷ records) (one ∷ stored) read = ap suc (read_length records stored read.2)

module _ (found : List (Vec ℕ Global)) (taken : ℕ) (stored : List Stored) (read : AreRead (texts (drop taken found)) stored) where
  -- the record of an entry is one of those that were found
  pub inside : (number : ℕ) → number < length stored → taken + number < length found
  inside number less = omega (arith, less, read_length (texts (drop taken found)) stored read, length-map (drop taken found) (λ (e : Vec ℕ Global). e.items), length-drop taken found)

  -- a preface and the entries behind it are what was found
  pub found_read : (front : Front) → BeginsWith front (texts found) taken → AreFound front (texts found) stored
  found_read front begins = of (texts found) begins.whole
    where
      behind_is : texts (drop taken found) ≡ begins.behind
      behind_is = sym (drop-map (λ (e : Vec ℕ Global). e.items) taken found) ∙ ap (λ (l : List (List ℕ)). drop taken l) begins.whole
          ∙ drop_at (preface_of front) begins.behind taken (omega (arith, begins.count))

      of : (records : List (List ℕ)) → records ≡ preface_of front ++ begins.behind → AreFound front records stored
      of [] is = let no : [] ≡ preface_of front ++ begins.behind = is in absurd cc
      of (first ∷ records) is = (begins.behind, is, subst (λ (l : List (List ℕ)). AreRead l stored) behind_is read)
