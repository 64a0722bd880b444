-- Reports and their numbers.
use Rattle.std.proofs.Common.{ℕ, ◌≡◌, ◌<◌, ◌↔◌, true, List, length, take, get_or, Some, ap, sym, ◌∙◌, arith, eqb}
use Rattle.std.proofs.lemmas.Bool.{eqb-true, eq-eqb}
use Rattle.std.proofs.lemmas.List.{get_or-map, length-map, get_or_default, take-map}
use Rattle.std.proofs.lemmas.List.Folds.{list_any_at, Any-from_list_any}
use Rattle.std.proofs.lemmas.Option.{slice_get-map, slice_get-get_or}
use Rattle.std.specs.List.{slice_get, list_any, Contains}
use Rattle.std.specs.Option.{option_map}
use Rattle.crew.specs.declared.call_end.CallEnd.{CallEnd}
use Rattle.crew.specs.declared.call_end.CallEnd.TheVariants.{Unopened}
use Rattle.crew.specs.Gather.{numbers_of}

-- the number of the report at a place
pub number_at : (reports : List (ℕ × CallEnd)) (k : ℕ) (report : ℕ × CallEnd) → slice_get reports k ≡ Some report
    → slice_get (numbers_of reports) k ≡ Some report.0
number_at reports k report at = slice_get-map (λ (one : ℕ × CallEnd). one.0) reports k ∙ ap (option_map (λ (one : ℕ × CallEnd). one.0)) at

-- the numbers of a front
pub front_numbers : (reports : List (ℕ × CallEnd)) (k : ℕ) → numbers_of (take k reports) ≡ take k (numbers_of reports)
front_numbers reports k = sym (take-map (λ (one : ℕ × CallEnd). one.0) k reports)

-- a number that was reported, from its report
pub reported : (reports : List (ℕ × CallEnd)) (k : ℕ) (d : ℕ × CallEnd) → k < length reports → Contains (numbers_of reports) (get_or reports k d).0
reported reports k d within =
    let f : ℕ × CallEnd → ℕ = λ one. one.0 in
    (k, omega (arith, length-map reports f), get_or-map f reports k d (get_or reports k d).0 within)

-- a report of a number that was reported
pub report_of : (reports : List (ℕ × CallEnd)) (number : ℕ) → Contains (numbers_of reports) number
    → (k : ℕ) × (report : ℕ × CallEnd) × (slice_get reports k ≡ Some report) × (report.0 ≡ number)
report_of reports number place =
    let f : ℕ × CallEnd → ℕ = λ one. one.0 in
    let any : ℕ × CallEnd = (number, Unopened) in
    let within : place.0 < length reports = omega (arith, place.1, length-map reports f) in
    (place.0, get_or reports place.0 any, slice_get-get_or reports place.0 any within, sym (get_or-map f reports place.0 any number within) ∙ place.2)

-- what a look for a number tells
pub found_number : (reports : List (ℕ × CallEnd)) (number : ℕ) → (list_any (λ report. eqb report.0 number) reports ≡ true) ↔ Contains (numbers_of reports) number
found_number reports number = (
  (λ found.
      let any = Any-from_list_any (λ (report : ℕ × CallEnd). eqb report.0 number) reports found in
      let here : (get_or reports any.0 any.1).0 ≡ number = ap (λ (report : ℕ × CallEnd). report.0) any.3 ∙ eqb-true any.1.0 number any.4 in
      let place = reported reports any.0 any.1 any.2 in
      (place.0, place.1, get_or_default (numbers_of reports) place.0 number (get_or reports any.0 any.1).0 place.1 ∙ (place.2 ∙ here))),
  (λ place.
      let f : ℕ × CallEnd → ℕ = λ one. one.0 in
      let any : ℕ × CallEnd = (number, Unopened) in
      let within : place.0 < length reports = omega (arith, place.1, length-map reports f) in
      let here : (get_or reports place.0 any).0 ≡ number = sym (get_or-map f reports place.0 any number within) ∙ place.2 in
      list_any_at (λ (report : ℕ × CallEnd). eqb report.0 number) reports place.0 any within (eq-eqb (get_or reports place.0 any).0 number here)),
)
