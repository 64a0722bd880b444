use Rattle.std.proofs.Common.{Err, ap, sym, ◌∙◌, arith}
use Rattle.std.proofs.lemmas.Result.{err_from_is_err_and}
use Rattle.commands.proofs.ServiceLemmas.{words_more, any_at, one_error}
use Rattle.commands.proofs.service.parse_services.Goals as goal

pub returns-in_err-parse_service-clause-bad : goal.returns-in_err-parse_service-clause-bad
returns-in_err-parse_service-clause-bad c =
    let p = err_from_is_err_and c.from_residual.result c.from_residual.ensures.1 in
    λ bad. any_at _ _ _ (omega arith) (c.in_err-parse_service.ensures.bad (ap Err (sym p.2 ∙ one_error _ _ _ p.1 bad)))

pub loop-word-preserved : goal.loop-word-preserved
loop-word-preserved c = words_more _ _ _ _ _ c.in_ok-parse_service.field-0 (omega arith) c.loop-word.invariant c.in_ok-parse_service.ensures.ok c.in_ok-push.ensures.items
