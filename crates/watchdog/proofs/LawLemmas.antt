-- What a look tells, after all that was met.
use Rattle.std.proofs.Common.{◌≡◌, ℕ, ◌+◌, ◌*◌, ◌≤◌, false, true, List, [], ◌∷◌, ◌++◌, Some, None, IsSomeAnd, arith}
use Rattle.std.proofs.lemmas.Bool.Decides.{nat_tests}
use Rattle.std.specs.Time.{FitsClock, instant_nanos}
use Rattle.std.specs.declared.time.Instant.{Instant}
use Rattle.watchdog.specs.declared.met.Met.{Met}
use Rattle.watchdog.specs.declared.met.Met.TheVariants.{Expected, Heard, Ended, Looked, Refused}
use Rattle.watchdog.specs.Timer.{is_overdue, period_of}
use Rattle.watchdog.specs.Laws.{begun_at, AreQuiet, IsUntold, was_refused}

-- where no refusal came since the newest beginning, what a look tells began at least the period ago
pub due : (past : List Met) (now : ℕ) → is_overdue past now ≡ true → was_refused past ≡ false
    → IsSomeAnd (begun_at past) (λ at. IsSomeAnd (period_of past)
    (λ seconds. at + seconds * 1000000000 ≤ now))
due [] now told fresh = grind (arith, nat_tests)
due (Expected at seconds ∷ past) now told fresh = grind (arith, nat_tests)
due (Heard at ∷ past) now told fresh = grind (arith, nat_tests)
due (Ended ∷ past) now told fresh = grind (arith, nat_tests)
due (Looked at ∷ past) now told fresh = due past now (grind (arith, nat_tests)) fresh
due (Refused at ∷ past) now told fresh = grind (arith, nat_tests)

-- after a look that told, no look tells before another beginning or a refusal
pub once : (past since : List Met) (first : Instant) (now : ℕ)
    → is_overdue past (instant_nanos first) ≡ true → AreQuiet since
    → is_overdue (since ++ Looked first ∷ past) now ≡ false
once past [] first now told quiet = grind (arith, nat_tests)
once past (Expected at seconds ∷ since) first now told quiet = absurd quiet
once past (Heard at ∷ since) first now told quiet = absurd quiet
once past (Ended ∷ since) first now told quiet = grind (arith, nat_tests)
once past (Looked at ∷ since) first now told quiet =
    let before = once past since first (instant_nanos at) told quiet in
    let later = once past since first now told quiet in grind (arith, nat_tests)
once past (Refused at ∷ since) first now told quiet = absurd quiet

-- where nothing is expected no look tells
pub never : (past : List Met) (now : ℕ) → period_of past ≡ None → is_overdue past now ≡ false
never [] now nothing = grind (arith, nat_tests)
never (Expected at seconds ∷ past) now nothing = grind (arith, nat_tests)
never (Heard at ∷ past) now nothing = grind (arith, nat_tests)
never (Ended ∷ past) now nothing = grind (arith, nat_tests)
never (Looked at ∷ past) now nothing =
    let before = never past (instant_nanos at) nothing in
    let later = never past now nothing in grind (arith, nat_tests)
never (Refused at ∷ past) now nothing = grind (arith, nat_tests)

-- a period after a beginning a look tells, unless one did before
pub sooner_or_later : (past : List Met) (at seconds now : ℕ)
    → begun_at past ≡ Some at → period_of past ≡ Some seconds → IsUntold past
    → FitsClock now → at + seconds * 1000000000 ≤ now → is_overdue past now ≡ true
sooner_or_later [] at seconds now begun period untold fits over = absurd untold
sooner_or_later (Expected at' seconds' ∷ past) at seconds now begun period untold fits over =
    grind (arith, nat_tests)
sooner_or_later (Heard at' ∷ past) at seconds now begun period untold fits over =
    grind (arith, nat_tests)
sooner_or_later (Ended ∷ past) at seconds now begun period untold fits over = absurd untold
sooner_or_later (Looked at' ∷ past) at seconds now begun period untold fits over =
    let before = sooner_or_later past at seconds now begun period untold.1 fits over in
    grind (arith, nat_tests)
sooner_or_later (Refused at' ∷ past) at seconds now begun period untold fits over = absurd untold
