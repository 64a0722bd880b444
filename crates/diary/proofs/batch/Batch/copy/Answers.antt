use Rattle.hall.proofs.LookingLemmas.{looked_on}
use Rattle.diary.proofs.batch.Batch.copy.Goals as goal

pub returns-then-has_entries-clause-looked : goal.returns-then-has_entries-clause-looked
returns-then-has_entries-clause-looked g c =
    looked_on c.args.seat.now c.copy_entries-has_entries.new.seat c.copy_changes-has_changes.new.seat c.copy_entries-has_entries.ensures.looked c.copy_changes-has_changes.ensures.looked

pub returns-else-has_entries-clause-looked : goal.returns-else-has_entries-clause-looked
returns-else-has_entries-clause-looked g c =
    looked_on c.args.seat.now c.copy_entries-has_entries.new.seat c.copy_changes-has_changes.new.seat c.copy_entries-has_entries.ensures.looked c.copy_changes-has_changes.ensures.looked
