use Rattle.std.proofs.Common.{rules, arith, ◌≡◌, ◌≤◌, ◌∷◌, length, subst, take, ◌+◌, ℕ}
use Rattle.record_log.specs.Log.{texts}
use Rattle.journal_store.specs.Preface.{Front, BeginsWith}
use Rattle.journal_store.proofs.PrefaceLemmas.{no_title, cut_short, is_front, begins_with}
use Rattle.journal_store.proofs.preface.read_preface.Goals as goal

pub returns-in_default-read-clause-none : goal.returns-in_default-read-clause-none
returns-in_default-read-clause-none c =
    let parts : c.args.found.now ≡ c.in-Some.first.now ∷ c.in-Some.records.now = search rules in
    λ is. no_title c.args.found.now c.in-Some.first.now c.in-Some.records.now c.deref.result.now parts c.deref.ensures.value c.in_default-read.ensures.none

pub returns-then-records-count-clause-cut_short : goal.returns-then-records-count-clause-cut_short
returns-then-records-count-clause-cut_short c =
    let parts : c.args.found.now ≡ c.in-Some.first.now ∷ c.in-Some.records.now = search rules in
    let title = c.in-Some-read.title in
    λ is. cut_short c.args.found.now c.in-Some.first.now c.in-Some.records.now c.deref.result.now parts c.deref.ensures.value title.base title.condensed title.names c.in-Some-read.ensures.some (omega arith)

pub invariant_of-preface : goal.invariant_of-preface
invariant_of-preface c =
    let parts : c.args.found.now ≡ c.in-Some.first.now ∷ c.in-Some.records.now = search rules in
    let title = c.in-Some-read.title in
    let enough : title.names ≤ length c.in-Some.records.now = omega arith in
    let copied : texts c.in_ok-names.names.items ≡ texts (take title.names c.in-Some.records.now) = search rules in
    is_front c.args.found.now c.in-Some.first.now c.in-Some.records.now c.deref.result.now parts c.deref.ensures.value title.base title.condensed title.names c.in-Some-read.ensures.some
    c.in_ok-names.names.items copied enough c.in-Some-read.ensures.few c.in_ok-names.ensures.short (search rules) (search rules)

pub returns-clause-read : goal.returns-clause-read
returns-clause-read c =
    let parts : c.args.found.now ≡ c.in-Some.first.now ∷ c.in-Some.records.now = search rules in
    let title = c.in-Some-read.title in
    let enough : title.names ≤ length c.in-Some.records.now = omega arith in
    let copied : texts c.in_ok-names.names.items ≡ texts (take title.names c.in-Some.records.now) = search rules in
    let count : title.names + 1 ≡ c.from-count.result + 1 = omega arith in
    let front : Front = record { names = texts c.in_ok-names.names.items; base = title.base; condensed = title.condensed } in
    subst (λ (n : ℕ). BeginsWith front (texts c.args.found.now) n) count
    (begins_with c.args.found.now c.in-Some.first.now c.in-Some.records.now c.deref.result.now parts c.deref.ensures.value title.base title.condensed title.names c.in-Some-read.ensures.some
    c.in_ok-names.names.items copied enough
    (is_front c.args.found.now c.in-Some.first.now c.in-Some.records.now c.deref.result.now parts c.deref.ensures.value title.base title.condensed title.names c.in-Some-read.ensures.some
    c.in_ok-names.names.items copied enough c.in-Some-read.ensures.few c.in_ok-names.ensures.short (search rules) (search rules)))
