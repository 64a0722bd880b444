use Rattle.hall.proofs.LookingLemmas.{looked_on}
use Rattle.watchdog.proofs.FallLemmas.{looked_of}
use Rattle.watchdog.proofs.FoundLemmas.{copied_next, forgotten_on}
use Rattle.watchdog.proofs.found.find.Goals as goal

pub returns-then-not-is_any_awake-clause-looked : goal.returns-then-not-is_any_awake-clause-looked
returns-then-not-is_any_awake-clause-looked g c = c.end_of_journal-end.ensures.looked

pub returns-then-not-is_any_awake-clause-found : goal.returns-then-not-is_any_awake-clause-found
returns-then-not-is_any_awake-clause-found g c = c.end_of_journal-end.ensures.end

pub returns-then-copy_entries-clause-looked : goal.returns-then-copy_entries-clause-looked
returns-then-copy_entries-clause-looked g c = looked_of c.args.seat.now c.copy_entries.new.seat c.copy_entries.ensures.goes_on c.copy_entries.ensures.kept

pub returns-then-copy_entries-clause-found : goal.returns-then-copy_entries-clause-found
returns-then-copy_entries-clause-found g c = copied_next _ _ _ _ c.clear.ensures.items (c.copy_entries.ensures.copied c.if-copy_entries.true)

pub returns-clause-looked : goal.returns-clause-looked
returns-clause-looked g c =
    let copied = c.copy_entries in
    looked_on c.args.seat.now copied.new.seat c.end_of_journal-end-2.new.seat (looked_of c.args.seat.now copied.new.seat copied.ensures.goes_on copied.ensures.kept)
    c.end_of_journal-end-2.ensures.looked

pub returns-clause-found : goal.returns-clause-found
returns-clause-found g c = (
  forgotten_on g.K.Keep.kept c.least_place-place.result c.copy_entries.new.seat.seen c.end_of_journal-end-2.new.seat.seen c.end_of_journal-end-2.ensures.looked.begins
      (c.copy_entries.ensures.forgotten.0 c.if-copy_entries.false),
  c.end_of_journal-end-2.ensures.end,
)
