-- Reports are gathered in one way, or fail for one reason.
use Rattle.std.proofs.Common.{ℕ, ◌≡◌, ◌<◌, ◌≤◌, inl, inr, ⊎_elim, List, length, take, get_or, Some, refl, ap, subst, sym, ◌∙◌, arith}
use Rattle.std.proofs.lemmas.Bool.{cases_order}
use Rattle.std.proofs.lemmas.List.{same_lists}
use Rattle.std.proofs.lemmas.Option.{get_or_from_slice_get, slice_get_within}
use Rattle.std.specs.List.{slice_get, Contains}
use Rattle.crew.specs.declared.call_end.CallEnd.{CallEnd}
use Rattle.crew.specs.declared.crew_why.CrewWhy.{CrewWhy}
use Rattle.crew.specs.Gather.{AreSound, IsGathered, Fails}
use Rattle.crew.specs.Gather.Fails.{HasStranger, HasDouble, HasLoss, HasNoFault}
use Rattle.crew.proofs.Reports.{report_of}
use Rattle.crew.proofs.Soundness.{IsWrong, none_wrong, none_wrong_before}

-- at one place a number behind sound ones is not a stranger's and a double too
not_both : (expected : ℕ) (front : List ℕ) (number : ℕ) → AreSound expected front → expected ≤ number → ¬ Contains front number
not_both expected front number sound stranger place =
    let known : get_or front place.0 number < expected = sound.known place.0 number place.1 in
    omega (arith, place.2)

-- of two wrong numbers behind sound ones neither is before the other
one_place : (expected : ℕ) (numbers : List ℕ) (p q number other : ℕ) → slice_get numbers p ≡ Some number → slice_get numbers q ≡ Some other
    → AreSound expected (take p numbers) → AreSound expected (take q numbers) → IsWrong expected numbers p number → IsWrong expected numbers q other
    → p ≡ q
one_place expected numbers p q number other at there sound later wrong wrong_too =
    ⊎_elim (λ same. same)
    (λ apart. absurd (⊎_elim
    (λ before. none_wrong_before expected numbers p q number later before at wrong)
    (λ behind. none_wrong_before expected numbers q p other sound behind there wrong_too)
    apart))
    (cases_order p q)

-- the leftmost wrong number is a stranger's or a double, and not both
one_wrong : (expected : ℕ) (numbers : List ℕ) (p q number other : ℕ) → slice_get numbers p ≡ Some number → slice_get numbers q ≡ Some other
    → AreSound expected (take p numbers) → AreSound expected (take q numbers) → expected ≤ number → Contains (take q numbers) other → ⊥
one_wrong expected numbers p q number other at there sound later stranger double =
    let same : p ≡ q = one_place expected numbers p q number other at there sound later (inl stranger) (inr double) in
    let alike : Some number ≡ Some other = sym at ∙ (ap (slice_get numbers) same ∙ there) in
    let equal : number ≡ other = cc in
    not_both expected (take q numbers) other later (omega arith) double

-- reports fail for one reason
pub one_why : (expected : ℕ) (numbers : List ℕ) (why other : CrewWhy) → Fails expected numbers why → Fails expected numbers other → why ≡ other
one_why expected numbers _ _ (HasStranger p a at sound stranger) (HasStranger q b there later strange) = refl
one_why expected numbers _ _ (HasStranger p a at sound stranger) (HasDouble q b there later double) = absurd (one_wrong expected numbers p q a b at there sound later stranger double)
one_why expected numbers _ _ (HasStranger p a at sound stranger) (HasLoss b all below missing) = absurd (none_wrong expected numbers p a all at (inl stranger))
one_why expected numbers _ _ (HasStranger p a at sound stranger) (HasNoFault whole) = absurd (none_wrong expected numbers p a whole.sound at (inl stranger))
one_why expected numbers _ _ (HasDouble p a at sound double) (HasStranger q b there later stranger) = absurd (one_wrong expected numbers q p b a there at later sound stranger double)
one_why expected numbers _ _ (HasDouble p a at sound double) (HasDouble q b there later twice) = refl
one_why expected numbers _ _ (HasDouble p a at sound double) (HasLoss b all below missing) = absurd (none_wrong expected numbers p a all at (inr double))
one_why expected numbers _ _ (HasDouble p a at sound double) (HasNoFault whole) = absurd (none_wrong expected numbers p a whole.sound at (inr double))
one_why expected numbers _ _ (HasLoss a all below missing) (HasStranger q b there later stranger) = absurd (none_wrong expected numbers q b all there (inl stranger))
one_why expected numbers _ _ (HasLoss a all below missing) (HasDouble q b there later double) = absurd (none_wrong expected numbers q b all there (inr double))
one_why expected numbers _ _ (HasLoss a all below missing) (HasLoss b too under lost) = refl
one_why expected numbers _ _ (HasLoss a all below missing) (HasNoFault whole) = absurd (missing (whole.all a below))
one_why expected numbers _ _ (HasNoFault whole) (HasStranger q b there later stranger) = absurd (none_wrong expected numbers q b whole.sound there (inl stranger))
one_why expected numbers _ _ (HasNoFault whole) (HasDouble q b there later double) = absurd (none_wrong expected numbers q b whole.sound there (inr double))
one_why expected numbers _ _ (HasNoFault whole) (HasLoss b all below missing) = absurd (missing (whole.all b below))
one_why expected numbers _ _ (HasNoFault whole) (HasNoFault too) = refl

-- the end of a number is that of its report
same_end : (expected : ℕ) (reports : List (ℕ × CallEnd)) (ends others : List CallEnd) (number : ℕ) (d : CallEnd) → IsGathered expected reports ends
    → IsGathered expected reports others → number < expected → get_or ends number d ≡ get_or others number d
same_end expected reports ends others number d one other below =
    let report = report_of reports number (one.whole.all number below) in
    let within : report.0 < length reports = slice_get_within reports report.0 report.1 report.2 in
    let is : get_or reports report.0 report.1 ≡ report.1 = get_or_from_slice_get reports report.0 report.1 report.1 report.2 in
    let here : slice_get ends (get_or reports report.0 report.1).0 ≡ Some (get_or reports report.0 report.1).1 = one.placed report.0 report.1 within in
    let there : slice_get others (get_or reports report.0 report.1).0 ≡ Some (get_or reports report.0 report.1).1 = other.placed report.0 report.1 within in
    let number_is : (get_or reports report.0 report.1).0 ≡ number = ap (λ (one : ℕ × CallEnd). one.0) is ∙ report.3 in
    let end = (get_or reports report.0 report.1).1 in
    get_or_from_slice_get ends number end d (subst (λ n. slice_get ends n ≡ Some end) number_is here)
    ∙ sym (get_or_from_slice_get others number end d (subst (λ n. slice_get others n ≡ Some end) number_is there))

-- reports are gathered in one way
pub one_list : (expected : ℕ) (reports : List (ℕ × CallEnd)) (ends others : List CallEnd) → IsGathered expected reports ends
    → IsGathered expected reports others → ends ≡ others
one_list expected reports ends others one other =
    same_lists ends others (one.len ∙ sym other.len) (λ k d within. same_end expected reports ends others k d one other (omega (arith, one.len)))
