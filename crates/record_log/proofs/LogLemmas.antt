-- What files of blocks stand for before and after a batch.
use Rattle.std.proofs.Common.{◌≡◌, ◌≢◌, inl, inr, ⊎_elim, ℕ, ◌+◌, ◌-◌, ◌<◌, List, [], ◌∷◌, ◌++◌, length, take, drop, refl, sym, ◌∙◌, ap, arith, append_assoc, length-append, take-append-drop}
use Rattle.std.proofs.lemmas.List.{take_at, append-nil}
use Rattle.std.proofs.lemmas.Bool.{cases_eq}
use Rattle.record_log.specs.Device.{IsWritten}
use Rattle.record_log.specs.Gate.{IsTornBehind}
use Rattle.record_log.specs.Log.{block, blocks, IsClosed, IsBeforeOrAfter}

pub blocks-append : (es fs : List (List ℕ)) (x : List ℕ) → blocks (es ++ fs) ++ x ≡ blocks es ++ (blocks fs ++ x)
blocks-append [] fs x = refl
blocks-append (e ∷ es) fs x = append_assoc (block e) (blocks (es ++ fs)) x ∙ ap (λ l. block e ++ l) (blocks-append es fs x) ∙ sym (append_assoc (block e) (blocks es) (blocks fs ++ x))

pub length-blocks-append : (es fs : List (List ℕ)) → length (blocks (es ++ fs)) ≡ length (blocks es) + length (blocks fs)
length-blocks-append es fs = ap length (sym (append-nil (blocks (es ++ fs))) ∙ blocks-append es fs [] ∙ ap (λ l. blocks es ++ l) (append-nil (blocks fs))) ∙ length-append (blocks es) (blocks fs)

-- the text of a batch begins with an open gate
opens : (b : List ℕ) (bs : List (List ℕ)) (text : List ℕ) → text ≡ blocks (b ∷ bs) ++ 0 ∷ [] → text ≡ 1 ∷ drop 1 text
opens b bs text is = is ∙ ap (λ (l : List ℕ). 1 ∷ l) (sym (ap (λ l. drop 1 l) is))

module _ (old : List ℕ) (at : ℕ) (entries : List (List ℕ)) (stands : IsClosed old entries) (here : at ≡ length (blocks entries)) where
  front : take at old ≡ blocks entries
  front = ap (λ l. take at l) stands.whole ∙ take_at (blocks entries) (stands.gate ∷ stands.rest) at (sym here)

  with_gate : take (at + 1) old ≡ blocks entries ++ stands.gate ∷ []
  with_gate = ap (λ l. take (at + 1) l) (stands.whole ∙ sym (append_assoc (blocks entries) (stands.gate ∷ []) stands.rest))
      ∙ take_at (blocks entries ++ stands.gate ∷ []) stands.rest (at + 1) (omega (arith, here, length-append (blocks entries) (stands.gate ∷ [])))

  pub gate_inside : at < length old
  gate_inside = omega (arith, here, ap length stands.whole, length-append (blocks entries) (stands.gate ∷ stands.rest))

  same_front : (c : List ℕ) → take (at + 1) c ≡ take (at + 1) old → IsClosed c entries
  same_front c same = record {
    gate = stands.gate;
    rest = drop (at + 1) c;
    shut = stands.shut;
    whole = sym (take-append-drop (at + 1) c) ∙ ap (λ l. l ++ drop (at + 1) c) (same ∙ with_gate) ∙ append_assoc (blocks entries) (stands.gate ∷ []) (drop (at + 1) c);
  }

  pub torn : (b : List ℕ) (bs : List (List ℕ)) (text c : List ℕ) → text ≡ blocks (b ∷ bs) ++ 0 ∷ [] → IsTornBehind old at text c → IsBeforeOrAfter entries (b ∷ bs) c
  torn b bs text c is (inl same) = inl (inl (same_front c same))
  torn b bs text c is (inr (g, more, whole)) = ⊎_elim opened closed (cases_eq g 1)
    where
      start : c ≡ blocks entries ++ (g ∷ (drop 1 text ++ more))
      start = whole ∙ ap (λ l. l ++ (g ∷ (drop 1 text ++ more))) front

      opened : g ≡ 1 → IsBeforeOrAfter entries (b ∷ bs) c
      opened one = inr (inl (record {
        gate = 0;
        rest = more;
        shut = omega arith;
        whole = start ∙ ap (λ (x : ℕ). blocks entries ++ (x ∷ (drop 1 text ++ more))) one
            ∙ ap (λ l. blocks entries ++ (l ++ more)) (sym (opens b bs text is) ∙ is)
            ∙ ap (λ l. blocks entries ++ l) (append_assoc (blocks (b ∷ bs)) (0 ∷ []) more)
            ∙ sym (blocks-append entries (b ∷ bs) (0 ∷ more));
      }))

      closed : g ≢ 1 → IsBeforeOrAfter entries (b ∷ bs) c
      closed not = inl (inl (record { gate = g; rest = drop 1 text ++ more; shut = not; whole = start }))

  -- the same of any batch that isn't empty
  pub torn_batch : (batch : List (List ℕ)) (text c : List ℕ) → 0 < length batch → text ≡ blocks batch ++ 0 ∷ [] → IsTornBehind old at text c → IsBeforeOrAfter entries batch c
  torn_batch [] text c some is left = absurd (omega (arith, some))
  torn_batch (b ∷ bs) text c some is left = torn b bs text c is left

  pub written : (batch : List (List ℕ)) (text new : List ℕ) → text ≡ blocks batch ++ 0 ∷ [] → IsWritten old at text new → IsClosed new (entries ++ batch)
  written batch text new is holds = record {
    gate = 0;
    rest = drop (at + length text) old;
    shut = omega arith;
    whole = holds ∙ append_assoc (take at old) text (drop (at + length text) old) ∙ ap (λ l. l ++ (text ++ drop (at + length text) old)) front
        ∙ ap (λ l. blocks entries ++ (l ++ drop (at + length text) old)) is
        ∙ ap (λ l. blocks entries ++ l) (append_assoc (blocks batch) (0 ∷ []) (drop (at + length text) old))
        ∙ sym (blocks-append entries batch (0 ∷ drop (at + length text) old));
  }

  pub new_end : (batch : List (List ℕ)) (text : List ℕ) → text ≡ blocks batch ++ 0 ∷ [] → at + (length text - 1) ≡ length (blocks (entries ++ batch))
  new_end batch text is = omega (arith, here, ap length is, length-append (blocks batch) (0 ∷ []), length-blocks-append entries batch)
