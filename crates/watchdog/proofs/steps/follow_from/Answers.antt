use Rattle.std.proofs.Common.{rules, ◌≡◌, ◌≤◌, ◌+◌, List, length, ap, ◌∙◌}
use Rattle.std.proofs.lemmas.List.{take_rest}
use Rattle.desk_core.specs.declared.entry.Entry.{Entry}
use Rattle.watchdog.specs.Guard.{followed}
use Rattle.watchdog.specs.Watching.{Stays}
use Rattle.watchdog.proofs.StepLemmas.{follows_so}
use Rattle.watchdog.proofs.steps.follow_from.Goals as goal

pub returns-in_default : goal.returns-in_default
returns-in_default c kept seat same are = Stays

pub returns-then-is_some : goal.returns-then-is_some
returns-then-is_some c kept seat same are =
    let there : c.args.guard.now.place ≡ c.args.place + c.in-Some.seen = search rules in
    let within : c.in-Some.seen ≤ length c.args.entries.now = search rules in
    follows_so kept c.args.guard.now c.follow.new.self seat c.args.number c.args.now c.args.place c.in-Some.seen c.args.entries.now there within
    (c.follow.ensures ∙ ap (λ (l : List Entry). followed c.args.number c.args.now l c.args.guard.now) (take_rest c.args.entries.now c.in-Some.seen)) same are

pub returns-else-seen-count : goal.returns-else-seen-count
returns-else-seen-count c kept seat same are = Stays
