use Rattle.std.proofs.Common.{◌∷◌, ◌++◌, [], ap, map, ◌∙◌}
use Rattle.server.proofs.crew_server.work_of.Goals as goal

pub returns-clause-jobs : goal.returns-clause-jobs
returns-clause-jobs c = c.in_ok-resize.ensures.len

pub returns-clause-orders : goal.returns-clause-orders
returns-clause-orders c = ap (map (λ list. list.items)) (c.in_ok-push.ensures.items ∙ ap (λ lists. lists ++ c.args.orders ∷ []) c.in_ok-lists.ensures.items)
