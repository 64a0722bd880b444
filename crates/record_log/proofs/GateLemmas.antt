-- What a crash leaves of a text that is written over a gate.
use Rattle.std.proofs.Common.{◌≡◌, inr, ℕ, ◌+◌, ◌<◌, List, [], ◌∷◌, ◌++◌, length, get_or, take, drop, sym, ◌∙◌, ap, arith, append_assoc, length-append, take-append-drop}
use Rattle.std.proofs.lemmas.List.{take_at, drop_at, drop_more, take_more, length-take-le}
use Rattle.record_log.specs.Device.{IsWritten, IsTorn}
use Rattle.record_log.specs.Gate.{IsTornBehind}

-- what is left behind the gate
abbrev tail : List ℕ → List ℕ → ℕ → List ℕ
tail old text at = drop 1 text ++ drop (at + 1 + length (drop 1 text)) old

module _ (old mid text : List ℕ) (at : ℕ) (gate : at < length old) (holds : IsWritten old (at + 1) (drop 1 text) mid) where
  whole : mid ≡ take (at + 1) old ++ tail old text at
  whole = holds ∙ append_assoc (take (at + 1) old) (drop 1 text) (drop (at + 1 + length (drop 1 text)) old)

  split : mid ≡ take at old ++ get_or old at 0 ∷ (tail old text at)
  split = whole ∙ ap (λ l. l ++ (tail old text at)) (take_more old at 0 gate) ∙ append_assoc (take at old) (get_or old at 0 ∷ []) (tail old text at)

  long : length (take at old) ≡ at
  long = length-take-le at old (omega (arith, gate))

  front : take at mid ≡ take at old
  front = ap (λ l. take at l) split ∙ take_at (take at old) (get_or old at 0 ∷ (tail old text at)) at long

  back : drop (at + 1) mid ≡ (tail old text at)
  back = ap (λ l. drop (at + 1) l) whole ∙ drop_at (take (at + 1) old) (tail old text at) (at + 1) (length-take-le (at + 1) old (omega (arith, gate)))

  pub torn_gate : (c : List ℕ) → IsTorn at 1 mid c → IsTornBehind old at text c
  torn_gate c torn =
      let longer : at < length c = omega (arith, torn.no_shorter, ap length split, length-append (take at old) (get_or old at 0 ∷ (tail old text at)), long) in
      inr (
        get_or c at 0,
        drop (at + 1 + length (drop 1 text)) old,
        sym (take-append-drop at c)
            ∙ ap (λ l. l ++ drop at c) (torn.before ∙ front)
            ∙ ap (λ l. take at old ++ l) (drop_more c at 0 longer ∙ ap (λ (l : List ℕ). get_or c at 0 ∷ l) (torn.after ∙ back)),
      )

  -- the gate is still there once what is behind it was written
  pub gate_stays : at < length mid
  gate_stays = omega (arith, gate, ap length split, length-append (take at old) (get_or old at 0 ∷ tail old text at), long)

-- and once the gate was written too, the text is whole
pub gated : (old mid new text : List ℕ) (at : ℕ) → at < length old → 0 < length text → IsWritten old (at + 1) (drop 1 text) mid → IsWritten mid at (take 1 text) new → IsWritten old at text new
gated old mid new [] at gate some behind first = absurd (omega (arith, some))
gated old mid new (t ∷ rest) at gate some behind first =
    let same : at + 1 + length rest ≡ at + length (t ∷ rest) = omega arith in
    first
    ∙ ap (λ l. (l ++ t ∷ []) ++ drop (at + 1) mid) (front old mid (t ∷ rest) at gate behind)
    ∙ ap (λ l. (take at old ++ t ∷ []) ++ l) (back old mid (t ∷ rest) at gate behind)
    ∙ sym (append_assoc (take at old ++ t ∷ []) rest (drop (at + 1 + length rest) old))
    ∙ ap (λ l. l ++ drop (at + 1 + length rest) old) (append_assoc (take at old) (t ∷ []) rest)
    ∙ ap (λ k. (take at old ++ t ∷ rest) ++ drop k old) same
