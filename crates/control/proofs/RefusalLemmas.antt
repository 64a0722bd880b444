-- Which of a few texts an answer is.
use Rattle.std.proofs.Common.{◌≡◌, ◌⊎◌, inl, inr, ℕ, Bool, true, false, true≢false, List, sym, ◌∙◌}
use Rattle.std.specs.Cmp.Lexicographic.{pointwise}
use Rattle.std.specs.Prelude.{◌==◌}
use Rattle.std.proofs.lemmas.Slice.Eq.{bytes_eq-Decides}

-- what a comparison says
module _ (answer said text : List ℕ) (found : Bool) (tells : found ≡ pointwise (λ a b. a == b) answer said) (is : said ≡ text) where
  pub is_text : found ≡ true → answer ≡ text
  is_text found_it = (bytes_eq-Decides answer said).0 (sym tells ∙ found_it) ∙ is

  pub is_found : answer ≡ text → found ≡ true
  is_found same = tells ∙ (bytes_eq-Decides answer said).1 (same ∙ sym is)

  pub is_no_text : {P : Type 0} → found ≡ false → answer ≡ text → P
  is_no_text no_text same = absurd (true≢false (sym (is_found same) ∙ no_text))

pub one_of_seven : {A B C D E F G P : Type 0} → (A → P) → (B → P) → (C → P) → (D → P) → (E → P) → (F → P) → (G → P) → A ⊎ B ⊎ C ⊎ D ⊎ E ⊎ F ⊎ G → P
one_of_seven a b c d e f g (inl x) = a x
one_of_seven a b c d e f g (inr (inl x)) = b x
one_of_seven a b c d e f g (inr (inr (inl x))) = c x
one_of_seven a b c d e f g (inr (inr (inr (inl x)))) = d x
one_of_seven a b c d e f g (inr (inr (inr (inr (inl x))))) = e x
one_of_seven a b c d e f g (inr (inr (inr (inr (inr (inl x)))))) = f x
one_of_seven a b c d e f g (inr (inr (inr (inr (inr (inr x)))))) = g x
