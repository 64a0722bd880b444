-- What a file stands for as its entries behind a place are taken back.
use Rattle.std.proofs.Common.{◌≡◌, ◌≢◌, inl, inr, ⊎_elim, ℕ, ◌+◌, ◌<◌, ◌≤◌, List, [], ◌∷◌, ◌++◌, length, get_or, take, drop, sym, ◌∙◌, ap, subst, arith, append_assoc, length-append, take-append-drop}
use Rattle.std.proofs.lemmas.List.{take_at, drop_at, drop_more, append-nil}
use Rattle.std.proofs.lemmas.Bool.{cases_eq}
use Rattle.record_log.specs.Device.{IsWritten, IsTorn}
use Rattle.record_log.specs.Log.{block, blocks, IsClosed, IsBeforeOrAfter}
use Rattle.record_log.proofs.LogLemmas.{blocks-append, length-blocks-append}

module _ (old : List ℕ) (at : ℕ) (entries : List (List ℕ)) (b : List ℕ) (bs : List (List ℕ)) (stands : IsClosed old (entries ++ b ∷ bs)) (here : at ≡ length (blocks entries)) where
  abbrev behind : List ℕ
  behind = drop 1 (blocks (b ∷ bs) ++ (stands.gate ∷ stands.rest))

  split : old ≡ blocks entries ++ (1 ∷ behind)
  split = stands.whole ∙ blocks-append entries (b ∷ bs) (stands.gate ∷ stands.rest)

  front : take at old ≡ blocks entries
  front = ap (λ l. take at l) split ∙ take_at (blocks entries) (1 ∷ behind) at (sym here)

  back : drop (at + 1) old ≡ behind
  back = ap (λ l. drop (at + 1) l) (split ∙ sym (append_assoc (blocks entries) (1 ∷ []) behind))
      ∙ drop_at (blocks entries ++ 1 ∷ []) behind (at + 1) (omega (arith, here, length-append (blocks entries) (1 ∷ [])))

  torn_back : (c : List ℕ) → IsTorn at 1 old c → IsBeforeOrAfter entries (b ∷ bs) c
  torn_back c torn = ⊎_elim opened closed (cases_eq (get_or c at 0) 1)
    where
      longer : at < length c
      longer = omega (arith, here, torn.no_shorter, ap length split, length-append (blocks entries) (1 ∷ behind))

      whole : c ≡ blocks entries ++ (get_or c at 0 ∷ behind)
      whole = sym (take-append-drop at c) ∙ ap (λ l. l ++ drop at c) (torn.before ∙ front)
          ∙ ap (λ l. blocks entries ++ l) (drop_more c at 0 longer ∙ ap (λ (l : List ℕ). get_or c at 0 ∷ l) (torn.after ∙ back))

      opened : get_or c at 0 ≡ 1 → IsBeforeOrAfter entries (b ∷ bs) c
      opened one = inr (inl (subst (λ l. IsClosed l (entries ++ b ∷ bs)) (split ∙ ap (λ (n : ℕ). blocks entries ++ (n ∷ behind)) (sym one) ∙ sym whole) stands))

      closed : get_or c at 0 ≢ 1 → IsBeforeOrAfter entries (b ∷ bs) c
      closed not = inl (inl (record { gate = get_or c at 0; rest = behind; shut = not; whole = whole }))

  shut : (new : List ℕ) → IsWritten old at (0 ∷ []) new → IsClosed new entries
  shut new written = record {
    gate = 0;
    rest = drop (at + 1) old;
    shut = omega arith;
    whole = written ∙ append_assoc (take at old) (0 ∷ []) (drop (at + 1) old) ∙ ap (λ l. l ++ (0 ∷ drop (at + 1) old)) front;
  }

module _ (old : List ℕ) (at end : ℕ) (entries more : List (List ℕ)) (stands : IsClosed old (entries ++ more)) (here : at ≡ length (blocks entries)) (was : end ≡ length (blocks (entries ++ more))) where
  -- where some entries are taken back
  pub torn : (c : List ℕ) → at < end → IsTorn at 1 old c → IsBeforeOrAfter entries more c
  torn c less is = of more stands was
    where
      of : (more : List (List ℕ)) → IsClosed old (entries ++ more) → end ≡ length (blocks (entries ++ more)) → IsBeforeOrAfter entries more c
      of [] stands was = absurd (omega (arith, less, here, was, length-blocks-append entries []))
      of (b ∷ bs) stands was = torn_back old at entries b bs stands here c is

  pub closed : (new : List ℕ) → at < end → IsWritten old at (0 ∷ []) new → IsClosed new entries
  closed new less is = of more stands was
    where
      of : (more : List (List ℕ)) → IsClosed old (entries ++ more) → end ≡ length (blocks (entries ++ more)) → IsClosed new entries
      of [] stands was = absurd (omega (arith, less, here, was, length-blocks-append entries []))
      of (b ∷ bs) stands was = shut old at entries b bs stands here new is

  -- where none are
  pub none : end ≤ at → entries ≡ entries ++ more
  none less = of more was
    where
      of : (more : List (List ℕ)) → end ≡ length (blocks (entries ++ more)) → entries ≡ entries ++ more
      of [] was = sym (append-nil entries)
      of (b ∷ bs) was = absurd (omega (arith, less, here, was, length-blocks-append entries (b ∷ bs), ap length (append_assoc (block b) (blocks bs) []), length-append (block b) (blocks bs)))

  pub inside : at ≤ length old
  inside = omega (arith, here, ap length stands.whole, length-append (blocks (entries ++ more)) (stands.gate ∷ stands.rest), length-blocks-append entries more)
