-- How a file that was read is ready for more.
use Rattle.std.proofs.Common.{◌≡◌, inl, inr, ℕ, ◌<◌, ◌≤◌, List, [], ◌∷◌, ◌++◌, length, drop, refl, sym, ◌∙◌, ap, arith, append_assoc}
use Rattle.record_log.specs.Device.{IsWritten, IsTorn}
use Rattle.record_log.specs.Log.{block, blocks, IsClosed, IsUnbegun, StandsFor}

-- it has a gate, as it is long enough
pub closed : (file : List ℕ) (entries : List (List ℕ)) → StandsFor file entries → 2 ≤ length file → IsClosed file entries
closed file entries (inl is) long = is
closed file entries (inr (short, none)) long = absurd (omega (arith, short, long))

-- too short a file has no entries
pub no_entries : (file : List ℕ) (entries : List (List ℕ)) → StandsFor file entries → length file < 2 → entries ≡ []
no_entries file entries (inr (_, none)) short = none
no_entries file [] (inl is) short = refl
no_entries file (entry ∷ entries) (inl is) short = absurd (omega (arith, short, ap length (is.whole ∙ append_assoc (block entry) (blocks entries) (is.gate ∷ is.rest))))

-- and its first gate is written
pub first_gate : (file : List ℕ) (entries : List (List ℕ)) (new : List ℕ) → StandsFor file entries → length file < 2 → IsWritten file 0 (0 ∷ []) new → IsClosed new entries
first_gate file entries new stands short written = record {
  gate = 0;
  rest = drop 1 file;
  shut = omega arith;
  whole = written ∙ ap (λ (l : List (List ℕ)). blocks l ++ (0 ∷ drop 1 file)) (sym (no_entries file entries stands short));
}

-- what a crash leaves of that write is too short for an entry, as the file was
pub not_begun : (old mid file : List ℕ) → mid ≡ old → length mid < 2 → IsTorn 0 1 mid file → IsUnbegun old × IsUnbegun file
not_begun old mid file same short torn = (omega (arith, ap length same, short), omega (arith, short, torn.no_longer))
