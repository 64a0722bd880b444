-- Noting reports one by one: how the places fill, and what they tell.
use Rattle.std.proofs.Common.{ℕ, Result, Ok, Err, ◌≡◌, ◌<◌, ◌≤◌, ◌+◌, ⊎_elim, List, [], ◌∷◌, ◌++◌, length, take, get_or, Option, Some, None, refl, ap, subst, sym, ◌∙◌, arith}
use Rattle.std.proofs.Math.ListN.{set}
use Rattle.std.proofs.lemmas.Bool.{cases_eq, cases_lt, false≢true}
use Rattle.std.proofs.lemmas.List.{length-set, get_or-set_same, get_or-set_other, map_push, take_more}
use Rattle.std.proofs.lemmas.List.Elements.{All-push, Contains-append_left, Contains-push}
use Rattle.std.proofs.lemmas.Option.{slice_get-get_or, slice_get_within, get_or_from_slice_get}
use Rattle.std.specs.List.{slice_get, Contains}
use Rattle.std.specs.Result.{IsOk}
use Rattle.crew.specs.declared.call_end.CallEnd.{CallEnd}
use Rattle.crew.specs.declared.crew_why.CrewWhy.{CrewWhy}
use Rattle.crew.specs.declared.crew_why.CrewWhy.TheVariants.{Stranger, Doubled}
use Rattle.crew.specs.Gather.{AreSound, Fails, numbers_of}
use Rattle.crew.specs.Noting.{AreNoted}
use Rattle.crew.proofs.Reports.{reported, report_of}
use Rattle.crew.proofs.Soundness.{sound_push}
use Rattle.crew.proofs.WrongReports.{stranger_fails, double_fails}

-- an element after a write
at_set : {X : Type 0} (xs : List X) (k : ℕ) (x : X) → k < length xs → slice_get (set xs k x) k ≡ Some x
at_set xs k x within =
    slice_get-get_or (set xs k x) k x (omega (arith, length-set xs k x)) ∙ ap Some (get_or-set_same xs k x x within)

-- the others stay
at_set_other : {X : Type 0} (xs : List X) (k i : ℕ) (x y : X) → ¬ (i ≡ k) → slice_get xs i ≡ Some y → slice_get (set xs k x) i ≡ Some y
at_set_other xs k i x y other at =
    let within : i < length xs = slice_get_within xs i y at in
    slice_get-get_or (set xs k x) i y (omega (arith, length-set xs k x)) ∙ ap Some (get_or-set_other xs k i x y other ∙ get_or_from_slice_get xs i y y at)

-- and come from before the write
at_unset : {X : Type 0} (xs : List X) (k i : ℕ) (x y : X) → ¬ (i ≡ k) → slice_get (set xs k x) i ≡ Some y → slice_get xs i ≡ Some y
at_unset xs k i x y other at =
    let within : i < length (set xs k x) = slice_get_within (set xs k x) i y at in
    slice_get-get_or xs i y (omega (arith, length-set xs k x)) ∙ ap Some (sym (get_or-set_other xs k i x y other) ∙ get_or_from_slice_get (set xs k x) i y y at)

-- a free place is that of a number that was not reported
pub free_is_missing : (expected : ℕ) (reports : List (ℕ × CallEnd)) (places : List (Option CallEnd)) (number : ℕ)
    → AreNoted expected reports places → slice_get places number ≡ Some None → ¬ Contains (numbers_of reports) number
free_is_missing expected reports places number noted free place =
    let report = report_of reports number place in
    let within : report.0 < length reports = slice_get_within reports report.0 report.1 report.2 in
    let is : get_or reports report.0 report.1 ≡ report.1 = get_or_from_slice_get reports report.0 report.1 report.1 report.2 in
    let end : slice_get places (get_or reports report.0 report.1).0 ≡ Some (Some (get_or reports report.0 report.1).1) = noted.placed report.0 report.1 within in
    let here : (get_or reports report.0 report.1).0 ≡ number = ap (λ (one : ℕ × CallEnd). one.0) is ∙ report.3 in
    let full : slice_get places number ≡ Some (Some (get_or reports report.0 report.1).1) = ap (slice_get places) (sym here) ∙ end in
    cc

-- what is said of putting an end at a number
pub record HasPut (places after : List (Option CallEnd)) (number : ℕ) (end : CallEnd) (answer : Result (Unit {0}) CrewWhy) : Type 0 where
  pub free : slice_get places number ≡ Some None → IsOk answer × (after ≡ set places number (Some end))
  pub taken : (other : CallEnd) → slice_get places number ≡ Some (Some other) → answer ≡ Err Doubled
  pub none : slice_get places number ≡ None → answer ≡ Err Stranger

err_is_no_ok : (answer : Result (Unit {0}) CrewWhy) (why : CrewWhy) → answer ≡ Err why → ¬ IsOk answer
err_is_no_ok answer why is ok = false≢true (subst IsOk is ok)

-- one report more
note_push : (expected : ℕ) (reports : List (ℕ × CallEnd)) (places : List (Option CallEnd)) (report : ℕ × CallEnd)
    → AreNoted expected reports places → report.0 < expected → slice_get places report.0 ≡ Some None
    → AreNoted expected (reports ++ report ∷ []) (set places report.0 (Some report.1))
note_push expected reports places report noted below free =
    let f : ℕ × CallEnd → ℕ = λ one. one.0 in
    let missing = free_is_missing expected reports places report.0 noted free in
    let numbers : numbers_of (reports ++ report ∷ []) ≡ numbers_of reports ++ report.0 ∷ [] = map_push f reports report in
    let within : report.0 < length places = slice_get_within places report.0 None free in
    record {
      len = length-set places report.0 (Some report.1) ∙ noted.len;
      sound = subst (AreSound expected) (sym numbers) (sound_push expected (numbers_of reports) report.0 noted.sound below missing);
      placed = All-push (λ one. slice_get (set places report.0 (Some report.1)) one.0 ≡ Some (Some one.1)) reports report
          (λ k d inside.
          at_set_other places report.0 (get_or reports k d).0 (Some report.1) (Some (get_or reports k d).1)
          (λ same. missing (subst (Contains (numbers_of reports)) same (reported reports k d inside)))
          (noted.placed k d inside))
          (at_set places report.0 (Some report.1) within);
      noted = λ other end at.
          subst (λ all. Contains all other) (sym numbers)
          (⊎_elim
          (λ same. subst (Contains (numbers_of reports ++ report.0 ∷ [])) (sym same) (Contains-push (numbers_of reports) report.0))
          (λ differs. Contains-append_left (numbers_of reports) (report.0 ∷ []) other
          (noted.noted other end (at_unset places report.0 other (Some report.1) (Some end) differs at)))
          (cases_eq other report.0));
    }

note_more : (expected : ℕ) (reports : List (ℕ × CallEnd)) (places : List (Option CallEnd)) (k : ℕ) (d : ℕ × CallEnd) → k < length reports
    → AreNoted expected (take k reports) places → (get_or reports k d).0 < expected → slice_get places (get_or reports k d).0 ≡ Some None
    → AreNoted expected (take (k + 1) reports) (set places (get_or reports k d).0 (Some (get_or reports k d).1))
note_more expected reports places k d within noted below free =
    rw (take_more reports k d within) (note_push expected (take k reports) places (get_or reports k d) noted below free)

-- where there is no place, the number is not below their count
past_places : (places : List (Option CallEnd)) (number : ℕ) → slice_get places number ≡ None → length places ≤ number
past_places places number none =
    ⊎_elim
    (λ below. absurd (let at : slice_get places number ≡ Some (get_or places number None) = slice_get-get_or places number None below in cc))
    (λ past. past)
    (cases_lt number (length places))

-- why the end of the next report was not put, by what was at the place of its number
put_fails_at : (expected : ℕ) (reports : List (ℕ × CallEnd)) (places after : List (Option CallEnd)) (k : ℕ) (d : ℕ × CallEnd) (answer : Result (Unit {0}) CrewWhy)
    (why : CrewWhy) → k < length reports → AreNoted expected (take k reports) places → answer ≡ Err why
    → HasPut places after (get_or reports k d).0 (get_or reports k d).1 answer
    → (place : Option (Option CallEnd)) → slice_get places (get_or reports k d).0 ≡ place → Fails expected (numbers_of reports) why
put_fails_at expected reports places after k d answer why within noted is put None at =
    let refused = put.none at in
    let same : Stranger ≡ why = cc in
    let past = past_places places (get_or reports k d).0 at in
    subst (Fails expected (numbers_of reports)) same (stranger_fails expected reports k d within noted.sound (omega (arith, past, noted.len)))
put_fails_at expected reports places after k d answer why within noted is put (Some None) at = absurd (err_is_no_ok answer why is (put.free at).0)
put_fails_at expected reports places after k d answer why within noted is put (Some (Some other)) at =
    let refused = put.taken other at in
    let same : Doubled ≡ why = cc in
    subst (Fails expected (numbers_of reports)) same (double_fails expected reports k d within noted.sound (noted.noted (get_or reports k d).0 other at))

pub put_fails : (expected : ℕ) (reports : List (ℕ × CallEnd)) (places after : List (Option CallEnd)) (k : ℕ) (d : ℕ × CallEnd) (answer : Result (Unit {0}) CrewWhy)
    (why : CrewWhy) → k < length reports → AreNoted expected (take k reports) places → answer ≡ Err why
    → HasPut places after (get_or reports k d).0 (get_or reports k d).1 answer → Fails expected (numbers_of reports) why
put_fails expected reports places after k d answer why within noted is put =
    put_fails_at expected reports places after k d answer why within noted is put (slice_get places (get_or reports k d).0) refl

-- where it was put, one report more is noted
put_notes_at : (expected : ℕ) (reports : List (ℕ × CallEnd)) (places after : List (Option CallEnd)) (k : ℕ) (d : ℕ × CallEnd) (answer : Result (Unit {0}) CrewWhy)
    (nothing : Unit {0}) → k < length reports → AreNoted expected (take k reports) places → answer ≡ Ok nothing
    → HasPut places after (get_or reports k d).0 (get_or reports k d).1 answer
    → (place : Option (Option CallEnd)) → slice_get places (get_or reports k d).0 ≡ place → AreNoted expected (take (k + 1) reports) after
put_notes_at expected reports places after k d answer nothing within noted is put None at = let refused = put.none at in absurd (cc)
put_notes_at expected reports places after k d answer nothing within noted is put (Some None) at =
    let below = slice_get_within places (get_or reports k d).0 None at in
    subst (AreNoted expected (take (k + 1) reports)) (sym (put.free at).1) (note_more expected reports places k d within noted (omega (arith, below, noted.len)) at)
put_notes_at expected reports places after k d answer nothing within noted is put (Some (Some other)) at = let refused = put.taken other at in absurd (cc)

pub put_notes : (expected : ℕ) (reports : List (ℕ × CallEnd)) (places after : List (Option CallEnd)) (k : ℕ) (d : ℕ × CallEnd) (answer : Result (Unit {0}) CrewWhy)
    (nothing : Unit {0}) → k < length reports → AreNoted expected (take k reports) places → answer ≡ Ok nothing
    → HasPut places after (get_or reports k d).0 (get_or reports k d).1 answer → AreNoted expected (take (k + 1) reports) after
put_notes expected reports places after k d answer nothing within noted is put =
    put_notes_at expected reports places after k d answer nothing within noted is put (slice_get places (get_or reports k d).0) refl
