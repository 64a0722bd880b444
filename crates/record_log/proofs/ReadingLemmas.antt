-- What is read of a file, and what is left to read.
use Rattle.std.proofs.Common.{◌≡◌, ◌≢◌, inr, ℕ, ◌-◌, ◌<◌, ◌≤◌, List, [], ◌∷◌, ◌++◌, length, refl, sym, ◌∙◌, ap, arith, append_assoc, length-append}
use Rattle.std.proofs.lemmas.List.{append-nil}
use Rattle.record_log.specs.Log.{block, blocks, IsClosed, StandsFor}
use Rattle.record_log.proofs.LogLemmas.{blocks-append}

-- the bytes are these entries' blocks and the rest
abbrev pub IsReadUpTo : List ℕ → List (List ℕ) → List ℕ → Type 0
IsReadUpTo bytes found rest = bytes ≡ blocks found ++ rest

-- no block stands at the front
abbrev pub HasNoBlock : List ℕ → Type 0
HasNoBlock rest = (entry more : List ℕ) → rest ≡ block entry ++ more → ⊥

-- a block that was read joins those that were found
pub reads_on : (bytes : List ℕ) (found : List (List ℕ)) (rest entry behind : List ℕ) → IsReadUpTo bytes found rest → rest ≡ block entry ++ behind → IsReadUpTo bytes (found ++ entry ∷ []) behind
reads_on bytes found rest entry behind read is =
    read ∙ ap (λ l. blocks found ++ l) (is ∙ ap (λ l. l ++ behind) (sym (append-nil (block entry)))) ∙ sym (blocks-append found (entry ∷ []) behind)

-- what is behind a block is shorter
pub shorter : (rest entry behind : List ℕ) → rest ≡ block entry ++ behind → length behind < length rest
shorter rest entry behind is = omega (arith, ap length is, length-append (block entry) behind)

module _ (bytes : List ℕ) (found : List (List ℕ)) (rest : List ℕ) (read : IsReadUpTo bytes found rest) where
  -- what was read is as long as its blocks
  pub end_of : length bytes - length rest ≡ length (blocks found)
  end_of = omega (arith, ap length read, length-append (blocks found) rest)

  -- it is no longer than the file
  pub inside : length rest ≤ length bytes
  inside = omega (arith, ap length read, length-append (blocks found) rest)

  -- a gate that is not open ends the entries
  pub closes : (gate : ℕ) (more : List ℕ) → gate ≢ 1 → rest ≡ gate ∷ more → IsClosed bytes found
  closes gate more shut is = record { gate = gate; rest = more; shut = shut; whole = read ∙ ap (λ l. blocks found ++ l) is }

-- a file that is shorter than a block has no entries
pub unbegun : (bytes : List ℕ) (found : List (List ℕ)) (rest : List ℕ) → IsReadUpTo bytes found rest → length bytes < 2 → StandsFor bytes found
unbegun bytes [] rest read short = inr (short, refl)
unbegun bytes (entry ∷ found) rest read short = absurd (omega (arith, short, ap length (read ∙ append_assoc (block entry) (blocks found) rest)))
