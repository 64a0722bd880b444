-- Texts that are written in parts.
use Rattle.std.proofs.Common.{ℕ, suc, ◌≡◌, ◌+◌, ◌<◌, ◌≤◌, List, [], ◌∷◌, ◌++◌, length, get_or, drop, arith, sym, ap, ◌∙◌}
use Rattle.std.specs.Prelude.{if◌then◌else◌, flat_map, Result, Ok, Err, OnOk, is_ok}
use Rattle.std.specs.declared.alloc.AllocError.{AllocError}
use Rattle.std.proofs.lemmas.List.{append-nil, append_assoc, drop_all}
use Rattle.std.proofs.Math.Seq.{drop-cons}
use Rattle.plain.specs.Metrics.{Metric, metric_text}

-- one part more
pub part_more : (old front part before after : List ℕ) → before ≡ old ++ front → after ≡ before ++ part → after ≡ old ++ (front ++ part)
part_more old front part before after so_far written = written ∙ (ap (λ text. text ++ part) so_far ∙ append_assoc old front part)

-- some metrics more
pub metrics_more : (old whole new : List ℕ) (made metrics : List Metric) → new ≡ old ++ flat_map metric_text made → made ≡ metrics → old ≡ whole
    → new ≡ whole ++ flat_map metric_text metrics
metrics_more old whole new made metrics written same so_far =
    written ∙ (ap (λ text. text ++ flat_map metric_text made) so_far ∙ ap (λ ms. whole ++ flat_map metric_text ms) same)

-- the same of some metrics behind other parts
pub samples_more : (old front before after : List ℕ) (made metrics : List Metric) → before ≡ old ++ front
    → after ≡ before ++ flat_map metric_text made → made ≡ metrics → after ≡ old ++ (front ++ flat_map metric_text metrics)
samples_more old front before after made metrics so_far written same =
    part_more old front (flat_map metric_text metrics) before after so_far (written ∙ ap (λ ms. before ++ flat_map metric_text ms) same)

-- a last part, which there may be no memory for
pub part_last : (written : Result Unit AllocError) (old front part before after : List ℕ) → before ≡ old ++ front → after ≡ (if is_ok written then before ++ part else before)
    → OnOk written (after ≡ old ++ (front ++ part))
part_last (Ok done) old front part before after so_far is = part_more old front part before after so_far is
part_last (Err error) old front part before after so_far is = tt

-- texts of the elements of a list, of which one more is written
pub flat_pushed : {A : Type 0} (texts : List A → List ℕ) (text : A → List ℕ) → ((x : A) (rest : List A) → texts (x ∷ rest) ≡ text x ++ texts rest)
    → (place : ℕ) (xs : List A) (x : A) (whole items more : List ℕ)
    → whole ≡ items ++ texts (drop place xs) → place < length xs → more ≡ items ++ text (get_or xs place x)
    → whole ≡ more ++ texts (drop (place + 1) xs)
flat_pushed texts text first place xs x whole items more so_far below written =
    let next : suc place ≡ place + 1 = omega arith in
    so_far
    ∙ ap (λ rest. items ++ texts rest) (drop-cons xs place x below ∙ ap (λ n. get_or xs place x ∷ drop n xs) next)
    ∙ ap (λ rest. items ++ rest) (first (get_or xs place x) (drop (place + 1) xs))
    ∙ sym (append_assoc items (text (get_or xs place x)) (texts (drop (place + 1) xs)))
    ∙ ap (λ front. front ++ texts (drop (place + 1) xs)) (sym written)

-- all of them are written
pub flat_whole : {A : Type 0} (texts : List A → List ℕ) → texts [] ≡ [] → (place : ℕ) (xs : List A) (whole items : List ℕ)
    → whole ≡ items ++ texts (drop place xs) → length xs ≤ place → items ≡ whole
flat_whole texts none place xs whole items so_far all =
    sym (so_far ∙ ap (λ rest. items ++ texts rest) (drop_all place xs all) ∙ ap (λ rest. items ++ rest) none ∙ append-nil items)
