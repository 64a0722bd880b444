use Rattle.std.proofs.Common.{sym, ap, ◌∙◌}
use Rattle.std.specs.Option.{option_or}
use Rattle.desk_core.specs.Board.{status_in}
use Rattle.desk_core.specs.Reason.{first_down, if_down}
use Rattle.desk_core.proofs.ReasonLemmas.{first_down-more, first_down-none}
use Rattle.desk_core.proofs.status.first_down.Goals as goal

pub loop-number-init : goal.loop-number-init
loop-number-init c = sym (first_down-none (status_in c.args.statuses) c.args.mask)

pub loop-number-preserved : goal.loop-number-preserved
loop-number-preserved c =
    let statuses = status_in c.args.statuses in
    c.or-first.ensures
    ∙ ap (λ o. option_or o c.if_down.result) c.loop-number.invariant
    ∙ ap (λ o. option_or (first_down statuses c.args.mask c.loop-number.number) o) (c.if_down.ensures ∙ ap (if_down statuses c.args.mask) c.at.ensures)
    ∙ sym (first_down-more statuses c.args.mask c.loop-number.number)
