use Rattle.std.proofs.Common.{◌≡◌, ◌&&◌, ◌||◌, not, sym, ap, ◌∙◌, arith}
use Rattle.desk_core.specs.Status.{has_slot, is_serving}
use Rattle.desk_core.specs.Board.{status_in}
use Rattle.desk_core.specs.Slots.{covers_below}
use Rattle.desk_core.proofs.SlotLemmas.{covers-none, covers-nothing, covers-more}
use Rattle.desk_core.proofs.status.covers.Goals as goal

pub loop-number-init : goal.loop-number-init
loop-number-init c = sym (covers-none (status_in c.args.below) c.args.mask)

pub loop-number-preserved : goal.loop-number-preserved
loop-number-preserved c =
    ap (λ b. b && c.allows-all.result) c.loop-number.invariant
    ∙ ap (λ b. covers_below (status_in c.args.below) c.loop-number.number c.args.mask && b)
    (c.allows-all.ensures
    ∙ ap (λ o. not (has_slot c.args.mask c.at-slot.result) || is_serving o) c.get.ensures
    ∙ ap (λ k. not (has_slot c.args.mask k) || is_serving (status_in c.args.below k)) c.at-slot.ensures)
    ∙ sym (covers-more (status_in c.args.below) c.loop-number.number c.args.mask)

pub returns-then-mask-eq0 : goal.returns-then-mask-eq0
returns-then-mask-eq0 c =
    sym (ap (covers_below (status_in c.args.below) 16) c.if-mask-eq0.true ∙ covers-nothing (status_in c.args.below) 16)

pub returns : goal.returns
returns c =
    let end : c.loop-number.number ≡ 16 = omega arith in
    c.loop-number.invariant ∙ ap (λ n. covers_below (status_in c.args.below) n c.args.mask) end
