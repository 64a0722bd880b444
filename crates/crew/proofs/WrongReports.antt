-- The leftmost report that is wrong, and what a look at the reports so far tells.
use Rattle.std.proofs.Common.{ℕ, ◌≡◌, ◌<◌, ◌≤◌, ◌+◌, Bool, true, false, List, length, take, get_or, subst, sym, ◌∙◌, eqb}
use Rattle.std.proofs.lemmas.Bool.{iff_false}
use Rattle.std.proofs.lemmas.Option.{slice_get-get_or}
use Rattle.std.specs.List.{list_any, Contains}
use Rattle.crew.specs.declared.call_end.CallEnd.{CallEnd}
use Rattle.crew.specs.declared.crew_why.CrewWhy.TheVariants.{Stranger, Doubled, Lost, NoMemory}
use Rattle.crew.specs.Gather.{AreSound, Fails, numbers_of}
use Rattle.crew.specs.Gather.Fails.{HasStranger, HasDouble, HasLoss, HasNoFault}
use Rattle.crew.proofs.Reports.{number_at, front_numbers, found_number}
use Rattle.crew.proofs.Soundness.{sound_more}

-- a stranger behind sound reports
pub stranger_fails : (expected : ℕ) (reports : List (ℕ × CallEnd)) (k : ℕ) (d : ℕ × CallEnd) → k < length reports
    → AreSound expected (numbers_of (take k reports)) → expected ≤ (get_or reports k d).0 → Fails expected (numbers_of reports) Stranger
stranger_fails expected reports k d within sound stranger =
    HasStranger k (get_or reports k d).0 (number_at reports k (get_or reports k d) (slice_get-get_or reports k d within))
    (subst (AreSound expected) (front_numbers reports k) sound) stranger

-- a double behind sound reports
pub double_fails : (expected : ℕ) (reports : List (ℕ × CallEnd)) (k : ℕ) (d : ℕ × CallEnd) → k < length reports
    → AreSound expected (numbers_of (take k reports)) → Contains (numbers_of (take k reports)) (get_or reports k d).0
    → Fails expected (numbers_of reports) Doubled
double_fails expected reports k d within sound double =
    HasDouble k (get_or reports k d).0 (number_at reports k (get_or reports k d) (slice_get-get_or reports k d within))
    (subst (AreSound expected) (front_numbers reports k) sound)
    (subst (λ front. Contains front (get_or reports k d).0) (front_numbers reports k) double)

-- the same, where a look for its number told so
pub found_double_fails : (expected : ℕ) (reports : List (ℕ × CallEnd)) (k : ℕ) (d : ℕ × CallEnd) (found : Bool) → k < length reports
    → AreSound expected (numbers_of (take k reports)) → found ≡ list_any (λ report. eqb report.0 (get_or reports k d).0) (take k reports) → found ≡ true
    → Fails expected (numbers_of reports) Doubled
found_double_fails expected reports k d found within sound is double =
    double_fails expected reports k d within sound ((found_number (take k reports) (get_or reports k d).0).0 (sym is ∙ double))

-- one report more that is not wrong
pub sound_with : (expected : ℕ) (reports : List (ℕ × CallEnd)) (k : ℕ) (d : ℕ × CallEnd) (found : Bool) → k < length reports
    → AreSound expected (numbers_of (take k reports)) → (get_or reports k d).0 < expected
    → found ≡ list_any (λ report. eqb report.0 (get_or reports k d).0) (take k reports) → found ≡ false
    → AreSound expected (numbers_of (take (k + 1) reports))
sound_with expected reports k d found within sound known is missing =
    let number = (get_or reports k d).0 in
    subst (AreSound expected) (sym (front_numbers reports (k + 1)))
    (sound_more expected (numbers_of reports) k number (number_at reports k (get_or reports k d) (slice_get-get_or reports k d within))
    (subst (AreSound expected) (front_numbers reports k) sound)
    known
    (subst (λ front. ¬ Contains front number) (front_numbers reports k)
    (iff_false (found_number (take k reports) number) (sym is ∙ missing))))

-- sound reports of all calls, and of not all
pub whole_fails : (expected : ℕ) (reports : List (ℕ × CallEnd)) → AreSound expected (numbers_of reports)
    → ((number : ℕ) → number < expected → Contains (numbers_of reports) number) → Fails expected (numbers_of reports) NoMemory
whole_fails expected reports sound all = HasNoFault (record { sound = sound; all = all })

pub lost_fails : (expected : ℕ) (reports : List (ℕ × CallEnd)) → AreSound expected (numbers_of reports)
    → (number : ℕ) × (number < expected) × ¬ Contains (numbers_of reports) number → Fails expected (numbers_of reports) Lost
lost_fails expected reports sound missing = HasLoss missing.0 sound missing.1 missing.2
