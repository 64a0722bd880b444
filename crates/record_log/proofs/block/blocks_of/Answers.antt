use Rattle.std.proofs.Common.{◌≡◌, ℕ, ◌+◌, List, [], ◌∷◌, ◌++◌, length, map, drop, sym, ◌∙◌, ap, subst, append_assoc}
use Rattle.std.proofs.lemmas.List.{drop_more, drop_all, append-nil}
use Rattle.std.specs.Int.{w32, to_be_bytes}
use Rattle.record_log.specs.Checksum.{crc32}
use Rattle.record_log.specs.Log.{blocks, texts}
use Rattle.record_log.proofs.block.blocks_of.Goals as goal

-- the parts of a block, one behind the other
joined : (text opened sized filled sealed entry seal more all : List ℕ) (n : ℕ) → opened ≡ text ++ 1 ∷ [] → sized ≡ opened ++ n ∷ [] → filled ≡ sized ++ entry → sealed ≡ filled ++ seal
    → text ++ (1 ∷ n ∷ ((entry ++ seal) ++ more)) ≡ all → sealed ++ more ≡ all
joined text opened sized filled sealed entry seal more all n first second third fourth are =
    let whole : ((((text ++ 1 ∷ []) ++ n ∷ []) ++ entry) ++ seal) ++ more ≡ text ++ (1 ∷ n ∷ ((entry ++ seal) ++ more)) = simp append_assoc in
    ap (λ l. l ++ more) (fourth ∙ ap (λ l. l ++ seal) (third ∙ ap (λ l. l ++ entry) (second ∙ ap (λ l. l ++ n ∷ []) first))) ∙ whole ∙ are

pub loop-entry-preserved : goal.loop-entry-preserved
loop-entry-preserved c =
    let batch = c.args.batch.now in
    let i = c.loop-entry.entry-index in
    let item = c.entry-item.result in
    let next = drop_more batch i item c.loop-entry-test.true ∙ ap (λ x. x ∷ drop (i + 1) batch) (sym c.entry-item.is) in
    let before = subst (λ l. c.loop-entry.text.items ++ blocks (map (λ entry. entry.items) l) ≡ blocks (map (λ entry. entry.items) batch)) next c.loop-entry.invariant in
    joined c.loop-entry.text.items c.push.new.self.items c.push-in-loop-entry.new.self.items c.extend_from_slice.new.self.items c.extend_from_slice-in-loop-entry.new.self.items
    item.items _ _ _ (length item.items) c.in_ok-push.ensures.items (c.in_ok-push-2.ensures.items ∙ ap (λ (n : ℕ). c.push.new.self.items ++ n ∷ []) (c.len.ensures ∙ item.ok.0))
    (c.in_ok-extend_from_slice.ensures.items ∙ ap (λ l. c.push-in-loop-entry.new.self.items ++ l) c.deref.ensures.value)
    (c.in_ok-extend_from_slice-2.ensures.items ∙ ap (λ l. c.extend_from_slice.new.self.items ++ l) (c.to_be_bytes.ensures ∙ ap (λ n. to_be_bytes w32 n) (c.crc32.ensures ∙ ap crc32 c.deref-in-loop-entry.ensures.value))) before

pub returns : goal.returns
returns c =
    let batch = c.args.batch.now in
    let before = subst (λ l. c.loop-entry.text.items ++ blocks (texts l) ≡ blocks (texts batch)) (drop_all c.loop-entry.entry-index batch c.loop-entry-test.false) c.loop-entry.invariant in
    c.in_ok-push-3.ensures.items ∙ ap (λ l. l ++ 0 ∷ []) (sym (append-nil c.loop-entry.text.items) ∙ before)
