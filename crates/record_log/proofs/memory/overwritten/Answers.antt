use Rattle.std.proofs.Common.{rules, ◌≡◌, ◌+◌, ◌-◌, ◌++◌, length, take, drop, sym, ◌∙◌, ap, arith, length-drop}
use Rattle.std.proofs.lemmas.List.{take_all, drop_all, append-nil}
use Rattle.std.proofs.lemmas.Result.{IfOk-from_err}
use Rattle.record_log.proofs.memory.overwritten.Goals.{then-bytes-old+in_ok-extend_from_slice-2, else-bytes-old}
use Rattle.record_log.proofs.memory.overwritten.Goals as goal

pub returns-in_err-new : goal.returns-in_err-new
returns-in_err-new c = IfOk-from_err _ _ c.from_residual.ensures.0

pub returns-in_err-extend_from_slice : goal.returns-in_err-extend_from_slice
returns-in_err-extend_from_slice c = IfOk-from_err _ _ c.from_residual-in_err-extend_from_slice.ensures.0

pub overflow_sub-old : goal.overflow_sub-old
overflow_sub-old c = c.requires

pub slice_bounds-extend_from_slice-count : goal.slice_bounds-extend_from_slice-count
slice_bounds-extend_from_slice-count c = omega (arith, c.if-bytes-old.true)

pub returns-in_err-extend_from_slice-2 : goal.returns-in_err-extend_from_slice-2
returns-in_err-extend_from_slice-2 c = IfOk-from_err _ _ c.from_residual-in_err-extend_from_slice-2.ensures.0

pub returns : goal.returns
returns c =
    let old = c.args.old.now in
    let front = take c.args.at old ++ c.args.bytes.now in
    let end = c.args.at + length c.args.bytes.now in
    let copied : c.in_ok-new.new.items ≡ take c.args.at old = search rules in
    let start = c.in_ok-extend_from_slice.ensures.items ∙ ap (λ l. l ++ c.args.bytes.now) copied in
    elim c.if-bytes-old.branch [
      | then-bytes-old+in_ok-extend_from_slice-2 w ↦
          ap (λ v. v.items) w.new-is ∙ w.in_ok-extend_from_slice-2.ensures.items ∙ ap (λ l. l ++ take (length old - end) (drop end old)) start
          ∙ ap (λ l. front ++ l) (take_all (length old - end) (drop end old) (omega (arith, length-drop end old)))
      | else-bytes-old w ↦
          ap (λ v. v.items) w.new-is ∙ start ∙ sym (append-nil front) ∙ ap (λ l. front ++ l) (sym (drop_all end old (omega (arith, w.if-bytes-old.false))))
    ]
