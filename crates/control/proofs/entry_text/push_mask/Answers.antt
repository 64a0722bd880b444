use Rattle.std.proofs.Common.{◌∷◌, ◌++◌, string_bytes, sym, ap, ◌∙◌, true, false}
use Rattle.std.proofs.lemmas.Bool.{eq-eqb, ne_eqb}
use Rattle.std.proofs.lemmas.List.{append-nil}
use Rattle.control.specs.NameText.{slot_word}
use Rattle.control.proofs.EntryTextLemmas.{mask_pushed, mask_text-none}
use Rattle.control.proofs.entry_text.push_mask.Goals as goal
use Rattle.control.proofs.entry_text.push_mask.Goals.{then-mask-number-eq1+in_ok-push_named, else-mask-number-eq1}

pub loop-number-init : goal.loop-number-init
loop-number-init c =
    sym (ap (λ rest. string_bytes c.args.text.now ++ rest) (mask_text-none c.args.catalogue.now c.args.mask) ∙ append-nil (string_bytes c.args.text.now))

pub loop-number-preserved : goal.loop-number-preserved
loop-number-preserved c =
    elim c.if-mask-number-eq1.branch [
      | then-mask-number-eq1+in_ok-push_named w ↦
          mask_pushed c.args.catalogue.now c.args.mask c.loop-number.number _ _ _ true (eq-eqb _ 1 w.if-mask-number-eq1.true) c.loop-number.invariant
          (ap string_bytes w.text-is ∙ w.in_ok-push_named.ensures
          ∙ ap (λ slot. string_bytes c.loop-number.text ++ 32 ∷ slot_word c.args.catalogue.now slot) (rw w.unwrap.ensures at w.new.ensures.value))
      | else-mask-number-eq1 w ↦
          mask_pushed c.args.catalogue.now c.args.mask c.loop-number.number _ _ _ false (ne_eqb _ 1 w.if-mask-number-eq1.false) c.loop-number.invariant
          (ap string_bytes w.text-is ∙ sym (append-nil (string_bytes c.loop-number.text)))
    ]
