use Rattle.watchdog.proofs.FailLemmas.{watched_fails}
use Rattle.watchdog.proofs.laws.watchdogs_make_fails_alone.Goals as goal

pub returns : goal.returns
returns c = λ kept guards guards_now old new watched.
    let made = watched_fails kept guards guards_now old new watched in
    (made.fails, made.all, made.own)
