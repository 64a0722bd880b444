use Rattle.watchdog.proofs.LawLemmas.{due, once, never, sooner_or_later}
use Rattle.watchdog.proofs.laws.told_once_and_when_due.Goals as goal

pub returns-clause-due : goal.returns-clause-due
returns-clause-due c = due

pub returns-clause-once : goal.returns-clause-once
returns-clause-once c = once

pub returns-clause-never : goal.returns-clause-never
returns-clause-never c = never

pub returns-clause-sooner_or_later : goal.returns-clause-sooner_or_later
returns-clause-sooner_or_later c = sooner_or_later
