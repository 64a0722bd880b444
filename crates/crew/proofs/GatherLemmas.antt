-- What the places tell once all reports are noted.
use Rattle.std.proofs.Common.{ℕ, suc, ◌≡◌, ◌<◌, ◌⊎◌, inl, inr, List, [], ◌∷◌, length, map, get_or, Option, Some, None, refl, ap, subst, sym, ◌∙◌, arith}
use Rattle.std.proofs.lemmas.List.{length-map, get_or-map}
use Rattle.std.proofs.lemmas.Option.{slice_get-get_or, slice_get_within, get_or_from_slice_get}
use Rattle.std.specs.List.{slice_get, filter_map, Contains}
use Rattle.crew.specs.declared.call_end.CallEnd.{CallEnd}
use Rattle.crew.specs.declared.call_end.CallEnd.TheVariants.{Unopened}
use Rattle.crew.specs.declared.crew_why.CrewWhy.{CrewWhy}
use Rattle.crew.specs.declared.crew_why.CrewWhy.TheVariants.{Lost, NoMemory}
use Rattle.crew.specs.Gather.{AreWhole, IsGathered, Fails, numbers_of}
use Rattle.crew.specs.Gather.Fails.{HasLoss, HasNoFault}
use Rattle.crew.specs.Noting.{AreNoted}
use Rattle.crew.proofs.NotingLemmas.{free_is_missing}

-- a place that stayed free is a loss
free_is_lost : (expected : ℕ) (reports : List (ℕ × CallEnd)) (places : List (Option CallEnd)) → AreNoted expected reports places
    → Contains places None → Fails expected (numbers_of reports) Lost
free_is_lost expected reports places noted place =
    let free : slice_get places place.0 ≡ Some None = slice_get-get_or places place.0 None place.1 ∙ ap Some place.2 in
    HasLoss place.0 noted.sound (omega (arith, place.1, noted.len)) (free_is_missing expected reports places place.0 noted free)

-- where no place stayed free, the reports are whole
full_at : (reports : List (ℕ × CallEnd)) (places : List (Option CallEnd)) (number : ℕ) (place : Option CallEnd)
    → ((end : CallEnd) → slice_get places number ≡ Some (Some end) → Contains (numbers_of reports) number)
    → slice_get places number ≡ Some place → ¬ (place ≡ None) → Contains (numbers_of reports) number
full_at reports places number None noted at full = absurd (full refl)
full_at reports places number (Some end) noted at full = noted end at

full_is_whole : (expected : ℕ) (reports : List (ℕ × CallEnd)) (places : List (Option CallEnd)) → AreNoted expected reports places
    → ¬ Contains places None → AreWhole expected (numbers_of reports)
full_is_whole expected reports places noted full = record {
  sound = noted.sound;
  all = λ number below.
      let within : number < length places = omega (arith, noted.len) in
      full_at reports places number (get_or places number None) (noted.noted number) (slice_get-get_or places number None within)
      (λ free. full (number, within, free));
}

-- where no place is free, the ends are all that is there
pub all_filled : (places : List (Option CallEnd)) → ¬ Contains places None → places ≡ map Some (filter_map (λ place. place) places)
all_filled [] full = refl
all_filled (None ∷ places) full = absurd (full (0, omega arith, refl))
all_filled (Some end ∷ places) full =
    ap (λ rest. Some end ∷ rest) (all_filled places (λ free. full (suc free.0, omega (arith, free.1), free.2)))

-- the ends at the places are those of the calls
none_free : (ends : List CallEnd) → ¬ Contains (map Some ends) None
none_free ends place =
    let within : place.0 < length ends = omega (arith, place.1, length-map ends Some) in
    let full : get_or (map Some ends) place.0 None ≡ Some (get_or ends place.0 Unopened) = get_or-map Some ends place.0 Unopened None within in
    let never : None ≡ Some (get_or ends place.0 Unopened) = sym place.2 ∙ full in
    cc

end_at : (ends : List CallEnd) (number : ℕ) (end : CallEnd) → slice_get (map Some ends) number ≡ Some (Some end) → slice_get ends number ≡ Some end
end_at ends number end at =
    let within : number < length ends = omega (arith, slice_get_within (map Some ends) number (Some end) at, length-map ends Some) in
    let full : get_or (map Some ends) number (Some end) ≡ Some (get_or ends number end) = get_or-map Some ends number end (Some end) within in
    let is : Some end ≡ Some (get_or ends number end) = sym (get_or_from_slice_get (map Some ends) number (Some end) (Some end) at) ∙ full in
    let same : get_or ends number end ≡ end = cc in
    slice_get-get_or ends number end within ∙ ap Some same

pub places_are_gathered : (expected : ℕ) (reports : List (ℕ × CallEnd)) (places : List (Option CallEnd)) (ends : List CallEnd)
    → AreNoted expected reports places → places ≡ map Some ends → IsGathered expected reports ends
places_are_gathered expected reports places ends noted is = record {
  whole = full_is_whole expected reports places noted (subst (λ all. ¬ Contains all None) (sym is) (none_free ends));
  len = sym (length-map ends Some) ∙ (ap length (sym is) ∙ noted.len);
  placed = λ k d within.
      end_at ends (get_or reports k d).0 (get_or reports k d).1
      (ap (λ all. slice_get all (get_or reports k d).0) (sym is) ∙ noted.placed k d within);
}

-- and why there are none
pub places_fail : (expected : ℕ) (reports : List (ℕ × CallEnd)) (places : List (Option CallEnd)) (why : CrewWhy) → AreNoted expected reports places
    → ((why ≡ Lost) × Contains places None) ⊎ ((why ≡ NoMemory) × ¬ Contains places None) → Fails expected (numbers_of reports) why
places_fail expected reports places why noted (inl lost) =
    subst (Fails expected (numbers_of reports)) (sym lost.0) (free_is_lost expected reports places noted lost.1)
places_fail expected reports places why noted (inr full) =
    subst (Fails expected (numbers_of reports)) (sym full.0) (HasNoFault (full_is_whole expected reports places noted full.1))

-- the same reports at the same places
pub noted_same : (expected other : ℕ) (reports found : List (ℕ × CallEnd)) (places there : List (Option CallEnd)) → expected ≡ other → reports ≡ found
    → places ≡ there → AreNoted expected reports places → AreNoted other found there
noted_same expected other reports found places there all same at noted =
    subst (λ n. AreNoted n found there) all
    (subst (λ those. AreNoted expected those there) same
    (subst (λ ends. AreNoted expected reports ends) at noted))
