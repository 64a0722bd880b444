use Rattle.std.proofs.Common.{get_or, ap, ◌∙◌, bit_or, arith, rules}
use Rattle.desk_core.proofs.RefreshLemmas.{refreshing_start, refreshing_more, refreshed}
use Rattle.desk_core.proofs.cache.Cache.refresh.Goals as goal

pub loop-number-init : goal.loop-number-init
loop-number-init g c = record {
  dependents = search rules;
  on = λ f h was was_shut touches leaves is. refreshing_start f h was c.args.slots.now.places.items was_shut c.args.is_shut c.args.touched c.args.self.now.statuses leaves is;
}

pub loop-number-preserved : goal.loop-number-preserved
loop-number-preserved g c = record {
  dependents = c.refresh_slot-marked.ensures.dependents ∙ c.loop-number.invariant.dependents;
  on = λ f h was was_shut touches leaves is.
      refreshing_more f h was c.args.slots.now.places.items was_shut c.args.is_shut c.args.self.now.dependents c.loop-number.number c.at.result c.loop-number.marked c.loop-number.self.statuses _ _
      touches (c.loop-number.invariant.on f h was was_shut touches leaves is) c.at.ensures (omega arith)
      c.refresh_slot-marked.ensures.unmarked c.refresh_slot-marked.ensures.marked c.refresh_slot-marked.ensures.same
      (λ differ. c.refresh_slot-marked.ensures.changed differ ∙ ap (λ ds. bit_or c.loop-number.marked (get_or ds c.at.result 0)) c.loop-number.invariant.dependents);
}

pub returns-clause-statuses : goal.returns-clause-statuses
returns-clause-statuses g c f h was was_shut old_map new_map back related leaves is =
    refreshed f h was c.args.slots.now.places.items was_shut c.args.is_shut c.loop-number.number c.loop-number.marked c.loop-number.self.statuses
    (c.loop-number.invariant.on f h was was_shut (record { old_map = old_map; new_map = new_map; back = back; related = related }) leaves is) (omega arith)
