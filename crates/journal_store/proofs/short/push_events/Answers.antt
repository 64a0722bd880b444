use Rattle.std.proofs.Common.{sym, ◌∙◌}
use Rattle.std.proofs.lemmas.Result.{on_ok_weaker}
use Rattle.journal_store.proofs.ShortLemmas.{counted_brought, down_brought}
use Rattle.journal_store.proofs.short.push_events.Goals as goal

pub returns-in_ok-push_findings-in-Threshold : goal.returns-in_ok-push_findings-in-Threshold
returns-in_ok-push_findings-in-Threshold c stands =
    on_ok_weaker c.push_findings-in-Threshold.result
    (λ passed. counted_brought c.args.slot c.in-Threshold.fall c.in-Threshold.rise c.memory.result c.in-Threshold.start c.args.known.now _ _ _ _ _ stands
    (sym c.rule.ensures ∙ c.in-Threshold.is) c.memory.ensures c.findings-fails.ensures c.in_ok-push_findings-in-Threshold.ensures passed)
    c.push_findings-in-Threshold.ensures

pub returns-then-memory-eq1 : goal.returns-then-memory-eq1
returns-then-memory-eq1 c stands =
    on_ok_weaker c.push.result
    (λ more. down_brought c.args.slot c.args.known.now _ _ (sym c.rule.ensures ∙ c.in-Manual.is) (sym c.memory-in-Manual.ensures ∙ c.if-memory-eq1.true) more)
    c.push.ensures
