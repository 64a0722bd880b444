-- Why a crew has no report once it has workers and seats.
use Rattle.std.proofs.Common.{ℕ, ◌≡◌, List, subst, sym, ◌∙◌, arith}
use Rattle.std.specs.Prelude.{Option, Some, None, IfSome, IfNone}
use Rattle.std.specs.Bool.{⊤}
use Rattle.crew.specs.declared.crew_why.CrewWhy.{CrewWhy}
use Rattle.crew.specs.CrewWhy.{IsOtherReason, crew_fault}
use Rattle.crew.specs.Gather.{Fails}
use Rattle.crew.specs.Gather.Fails.{HasStranger, HasDouble, HasLoss, HasNoFault}

-- what is wrong with reports is no lack of workers or of seats
other_reason : (calls : ℕ) (numbers : List ℕ) (why : CrewWhy) → Fails calls numbers why → IsOtherReason calls why
other_reason calls numbers why (HasStranger place number at sound over) =
    record { manned = λ same. cc; seated = λ same. cc; lost = λ same. cc; doubled = λ same. cc }
other_reason calls numbers why (HasDouble place number at sound double) =
    record { manned = λ same. cc; seated = λ same. cc; lost = λ same. cc; doubled = λ same. omega (arith, sound.known double.0 number double.1) }
other_reason calls numbers why (HasLoss number sound below missing) =
    record { manned = λ same. cc; seated = λ same. cc; lost = λ same. omega (arith, below); doubled = λ same. cc }
other_reason calls numbers why (HasNoFault whole) =
    record { manned = λ same. cc; seated = λ same. cc; lost = λ same. cc; doubled = λ same. cc }

-- so it is another reason where nothing is wrong with workers and seats
pub where_none : (fault : Option CrewWhy) (calls jobs : ℕ) (numbers : List ℕ) (why : CrewWhy) → calls ≡ jobs → Fails calls numbers why
    → IfNone fault (IsOtherReason jobs why)
where_none None calls jobs numbers why same fails = subst (λ n. IsOtherReason n why) same (other_reason calls numbers why fails)
where_none (Some fault) calls jobs numbers why same fails = tt

-- no reason is told where nothing is wrong
pub not_told : (P : CrewWhy → Type 0) (workers lists seats lists' seats' : ℕ) (found : Option CrewWhy) → found ≡ crew_fault workers lists' seats' → found ≡ None → lists' ≡ lists → seats' ≡ seats
    → IfSome (crew_fault workers lists seats) P
not_told P workers lists seats lists' seats' found is none same same' =
    subst (λ n. IfSome (crew_fault workers n seats) P) same
    (subst (λ n. IfSome (crew_fault workers lists' n) P) same' (subst (λ fault. IfSome fault P) (sym none ∙ is) tt))

-- and there is nothing to say of another reason where there is none
pub no_reason : (fault : Option CrewWhy) → IfNone fault ⊤
no_reason None = tt
no_reason (Some fault) = tt
