-- That a file has one meaning.
use Rattle.std.proofs.Common.{◌≡◌, ◌≢◌, ◌⊎◌, inl, inr, ℕ, List, [], ◌∷◌, ◌++◌, length, take, drop, get_or, refl, sym, ◌∙◌, ap, arith, append_assoc}
use Rattle.std.proofs.lemmas.List.{take_at, drop_at}
use Rattle.std.specs.Int.{w32, to_be_bytes}
use Rattle.record_log.specs.Checksum.{crc32}
use Rattle.record_log.specs.Log.{block, blocks, StandsFor, IsDamagedAt, IsBeforeOrAfter}
use Rattle.record_log.proofs.OpeningLemmas.{no_entries}

abbrev seal : List ℕ → List ℕ
seal entry = to_be_bytes w32 (crc32 entry)

-- no block begins another
one_block : (e f x y : List ℕ) → block e ++ x ≡ block f ++ y → (e ≡ f) × (x ≡ y)
one_block e f x y same = (entries, rests)
  where
    lengths : length e ≡ length f
    lengths = ap (λ l. get_or l 1 0) same

    behind : (e ++ seal e) ++ x ≡ (f ++ seal f) ++ y
    behind = ap (λ l. drop 2 l) same

    apart : e ++ (seal e ++ x) ≡ f ++ (seal f ++ y)
    apart = sym (append_assoc e (seal e) x) ∙ behind ∙ append_assoc f (seal f) y

    entries : e ≡ f
    entries = sym (take_at e (seal e ++ x) (length e) refl) ∙ ap (λ l. take (length e) l) apart ∙ take_at f (seal f ++ y) (length e) (sym lengths)

    tails : seal e ++ x ≡ seal f ++ y
    tails = sym (drop_at e (seal e ++ x) (length e) refl) ∙ ap (λ l. drop (length e) l) apart ∙ drop_at f (seal f ++ y) (length e) (sym lengths)

    rests : x ≡ y
    rests = ap (λ l. drop 4 l) tails

-- two runs of blocks before closed gates are the same
same_blocks : (these those : List (List ℕ)) (g h : ℕ) (x y : List ℕ) → g ≢ 1 → h ≢ 1 → blocks these ++ (g ∷ x) ≡ blocks those ++ (h ∷ y) → these ≡ those
same_blocks [] [] g h x y g_shut h_shut same = refl
same_blocks [] (f ∷ those) g h x y g_shut h_shut same = absurd (g_shut (ap (λ l. get_or l 0 0) same))
same_blocks (e ∷ these) [] g h x y g_shut h_shut same = absurd (h_shut (sym (ap (λ l. get_or l 0 0) same)))
same_blocks (e ∷ these) (f ∷ those) g h x y g_shut h_shut same =
    let first = one_block e f _ _ (sym (append_assoc (block e) (blocks these) (g ∷ x)) ∙ same ∙ append_assoc (block f) (blocks those) (h ∷ y)) in
    ap (λ l. l ∷ these) first.0 ∙ ap (λ l. f ∷ l) (same_blocks these those g h x y g_shut h_shut first.1)

-- blocks before what is neither a block nor closed are not blocks before a closed gate
not_closed : (these those : List (List ℕ)) (rest : List ℕ) (h : ℕ) (y : List ℕ) → ((entry more : List ℕ) → rest ≡ block entry ++ more → ⊥)
    → ((gate : ℕ) (more : List ℕ) → gate ≢ 1 → rest ≡ gate ∷ more → ⊥) → h ≢ 1 → blocks these ++ rest ≡ blocks those ++ (h ∷ y) → ⊥
not_closed [] [] rest h y no_block no_end shut same = no_end h y shut same
not_closed [] (f ∷ those) rest h y no_block no_end shut same = no_block f (blocks those ++ (h ∷ y)) (same ∙ append_assoc (block f) (blocks those) (h ∷ y))
not_closed (e ∷ these) [] rest h y no_block no_end shut same = shut (sym (ap (λ l. get_or l 0 0) same))
not_closed (e ∷ these) (f ∷ those) rest h y no_block no_end shut same =
    let first = one_block e f _ _ (sym (append_assoc (block e) (blocks these) rest) ∙ same ∙ append_assoc (block f) (blocks those) (h ∷ y)) in
    not_closed these those rest h y no_block no_end shut first.1

pub one : (file : List ℕ) (these those : List (List ℕ)) → StandsFor file these → StandsFor file those → these ≡ those
one file these those (inl a) (inl b) = same_blocks these those a.gate b.gate a.rest b.rest a.shut b.shut (sym a.whole ∙ b.whole)
one file these those (inl a) (inr (short, none)) = no_entries file these (inl a) short ∙ sym none
one file these those (inr (short, none)) b = none ∙ sym (no_entries file those b short)

pub damage : (file : List ℕ) (at : ℕ) (entries : List (List ℕ)) → IsDamagedAt file at → StandsFor file entries → ⊥
damage file at entries d (inl is) = not_closed d.entries entries d.rest is.gate is.rest d.no_block d.no_end is.shut (sym d.whole ∙ is.whole)
damage file at entries d (inr (short, none)) = omega (arith, short, d.begun)

pub after_a_crash : (file : List ℕ) (entries batch found : List (List ℕ)) → IsBeforeOrAfter entries batch file → StandsFor file found → (found ≡ entries) ⊎ (found ≡ entries ++ batch)
after_a_crash file entries batch found (inl before) stands = inl (one file found entries stands before)
after_a_crash file entries batch found (inr after) stands = inr (one file found (entries ++ batch) stands after)
