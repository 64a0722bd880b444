use Rattle.std.proofs.Common.{sym, ◌∙◌}
use Rattle.desk_core.specs.Past.{past}
use Rattle.desk_core.specs.Present.{rule_at}
use Rattle.desk_core.specs.Status.{status_at}
use Rattle.desk_core.proofs.DeskLemmas.{map_of_parts, looks_back, related_of_parts, related_too}
use Rattle.desk_core.proofs.history.History.show.Goals as goal

pub returns-clause-statuses : goal.returns-clause-statuses
returns-clause-statuses g c was was_shut older journal max_entries keeps_old keeps related leaves is =
    c.refresh.ensures.statuses (status_at (past older)) (status_at (past journal)) was was_shut
    (map_of_parts (record { up = c.memory_tells_status.ensures.status; unknown = c.memory_tells_status.ensures.unknown }) was was_shut older max_entries keeps_old)
    (map_of_parts (record { up = c.memory_tells_status.ensures.status; unknown = c.memory_tells_status.ensures.unknown }) c.args.slots.now.places.items c.args.is_shut journal max_entries keeps)
    (looks_back c.args.slots.now.places.items c.args.is_shut journal max_entries keeps)
    (related_of_parts c.args.slots.now.places.items c.args.is_shut journal max_entries c.follow.new.self.dependents keeps
    (related_too (rule_at (past journal)) _ _ (sym c.refresh.ensures.dependents) related))
    (rw c.touched.ensures leaves) (c.follow.ensures.statuses ∙ is)
