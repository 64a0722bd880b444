use Rattle.std.proofs.Common.{◌≡◌, ◌+◌, ◌<◌, length, rules, subst}
use Rattle.journal_lines.proofs.FoundLemmas.{found_read, inside}
use Rattle.journal_lines.proofs.reading.journal_of.Goals as goal

pub returns-in-Some-clause-inside : goal.returns-in-Some-clause-inside
returns-in-Some-clause-inside c = λ n is.
    let taken = c.in_ok-preface.taken in
    let number = c.in-Some.number in
    let found = c.args.found.now in
    let at : taken + number ≡ n = search rules in
    let less = subst (λ l. number < length l) c.deref.ensures.value c.in-Some.ensures.inside in
    subst (λ k. k < length found) at (inside found taken c.in_ok-stored.stored.items c.in_ok-stored.ensures.read number less)

pub returns-clause-found : goal.returns-clause-found
returns-clause-found c = found_read c.args.found.now c.in_ok-preface.taken c.in_ok-stored.stored.items c.in_ok-stored.ensures.read c.in_ok-preface.preface c.in_ok-preface.ensures.read
