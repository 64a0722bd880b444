-- How a line is met follows from the line.
use Rattle.std.proofs.Common.{ℕ, ◌≡◌, ◌<◌, ◌≤◌, ◌⊎◌, inl, inr, ◌==◌, Bool, true, false, List, [], ◌∷◌, length, refl, sym, ap, subst, arith, ⊎_elim}
use Rattle.std.specs.Prelude.{if◌then◌else◌, Option, Result}
use Rattle.std.specs.Str.{IsUtf8}
use Rattle.std.proofs.lemmas.Bool.{eqb-true}
use Rattle.std.proofs.lemmas.Str.{IsUtf8-encode, IsUtf8-nil}
use Rattle.desk_core.specs.declared.call.Call.{Call}
use Rattle.desk_core.specs.declared.entry.Entry.{Entry}
use Rattle.desk_core.specs.declared.refusal.Refusal.{Refusal}
use Rattle.desk_core.specs.declared.reply.Reply.{Reply}
use Rattle.script.specs.declared.expectation.Expectation.{Expectation}
use Rattle.script.specs.TextLines.{without_cr}
use Rattle.control.specs.declared.answer.Answer.{Answer}
use Rattle.control.specs.declared.answer.Answer.TheVariants as answers
use Rattle.control.specs.declared.request.Request.{Request}
use Rattle.control.specs.declared.stats.Stats.{Stats}
use Rattle.control.specs.Line.{IsSilent}
use Rattle.control.specs.Meeting.{IsLineMet, IsMet, IsSaid}
use Rattle.control.specs.Meeting.IsLineMet.{IsTooLong, IsSkipped, IsNoText, IsNoRequest, IsUnread, IsDenied, IsAsked}
use Rattle.control.specs.Meeting.IsMet.{Starves}
use Rattle.control.specs.declared.rights.Rights.{Rights}
use Rattle.control.specs.Known.{Asked, Known}
use Rattle.control.specs.Request.{IsRequest}
use Rattle.control.specs.Rights.{IsAllowed, unknown_line}
use Rattle.control.proofs.OneRequest.{one_request}

-- a line that says nothing has no byte, or a CR alone
cr_alone : (b : Bool) (c : ℕ) → (c == 13) ≡ b → (if b then [] else c ∷ []) ≡ [] → IsSilent (c ∷ [])
cr_alone true c is none = inr (ap (λ d. d ∷ []) (eqb-true c 13 is))
cr_alone false c is none = let no : ⊥ = cc in absurd no

silent : (line : List ℕ) → without_cr line ≡ [] → IsSilent line
silent [] none = inl refl
silent (c ∷ []) none = cr_alone (c == 13) c refl none
silent (c ∷ d ∷ rest) none = let no : ⊥ = cc in absurd no

-- it is short, and text
silent_short : (line : List ℕ) → without_cr line ≡ [] → length line ≤ 1024
silent_short line none = ⊎_elim
    (λ (is : line ≡ []). subst (λ l. length l ≤ 1024) (sym is) (omega arith))
    (λ (is : line ≡ 13 ∷ []). subst (λ l. length l ≤ 1024) (sym is) (omega arith))
    (silent line none)

silent_text : (line : List ℕ) → without_cr line ≡ [] → IsUtf8 line
unfolding lib.Utf8.encode
silent_text line none = ⊎_elim
    (λ (is : line ≡ []). subst IsUtf8 (sym is) IsUtf8-nil)
    (λ (is : line ≡ 13 ∷ []). subst IsUtf8 (sym is) (IsUtf8-encode 13 refl))
    (silent line none)

module _ {S : Type 0} (rights : S → Rights) (expects : List (List ℕ) → S → S → Expectation → Result Reply Refusal → Type 0) {seen : S → List Entry} {looks : S → S → Type 0} {changes : S → S → Option Call → Result Reply Refusal → Type 0} {tells : S → Stats → Type 0} {knows : S → Asked → Known → Type 0} {stops : S → S → Type 0} where
  pub too_long : (names : List (List ℕ)) (old new : S) (line : List ℕ) (answer : Answer) → IsLineMet (rights old) names seen looks changes (expects names) tells knows stops old new line answer → 1024 < length line
      → (answer ≡ answers.TooLong) × (new ≡ old)
  too_long names old new line answer (IsTooLong long same) many = (refl, same)
  too_long names old new line _ (IsNoText short wrong answer told same) many = absurd (omega (arith, short, many))
  too_long names old new line answer (IsSkipped short none same) many = absurd (omega (arith, short, many))
  too_long names old new line _ (IsNoRequest said none answer told same) many = absurd (omega (arith, said.short, many))
  too_long names old new line answer (IsUnread said same) many = absurd (omega (arith, said.short, many))
  too_long names old new line answer (IsDenied said request asks denied same) many = absurd (omega (arith, said.short, many))
  too_long names old new line answer (IsAsked said request _ asks allowed met) many = absurd (omega (arith, said.short, many))

  pub no_text : (names : List (List ℕ)) (old new : S) (line : List ℕ) (answer : Answer) → IsLineMet (rights old) names seen looks changes (expects names) tells knows stops old new line answer → length line ≤ 1024
      → ¬ IsUtf8 line → (answer ≡ unknown_line (rights old)) × (new ≡ old)
  no_text names old new line answer (IsTooLong long same) few bad = absurd (omega (arith, long, few))
  no_text names old new line _ (IsNoText short wrong answer told same) few bad = (told, same)
  no_text names old new line answer (IsSkipped short none same) few bad = absurd (bad (silent_text line none))
  no_text names old new line _ (IsNoRequest said none answer told same) few bad = absurd (bad said.text)
  no_text names old new line answer (IsUnread said same) few bad = absurd (bad said.text)
  no_text names old new line answer (IsDenied said request asks denied same) few bad = absurd (bad said.text)
  no_text names old new line answer (IsAsked said request _ asks allowed met) few bad = absurd (bad said.text)

  pub says_nothing : (names : List (List ℕ)) (old new : S) (line : List ℕ) (answer : Answer) → IsLineMet (rights old) names seen looks changes (expects names) tells knows stops old new line answer → without_cr line ≡ []
      → (answer ≡ answers.Skipped) × (new ≡ old)
  says_nothing names old new line answer (IsTooLong long same) blank = absurd (omega (arith, long, silent_short line blank))
  says_nothing names old new line _ (IsNoText short wrong answer told same) blank = absurd (wrong (silent_text line blank))
  says_nothing names old new line answer (IsSkipped short none same) blank = (refl, same)
  says_nothing names old new line _ (IsNoRequest said none answer told same) blank = absurd (said.some blank)
  says_nothing names old new line answer (IsUnread said same) blank = absurd (said.some blank)
  says_nothing names old new line answer (IsDenied said request asks denied same) blank = absurd (said.some blank)
  says_nothing names old new line answer (IsAsked said request _ asks allowed met) blank = absurd (said.some blank)

  pub no_request : (names : List (List ℕ)) (old new : S) (line : List ℕ) (answer : Answer) → IsLineMet (rights old) names seen looks changes (expects names) tells knows stops old new line answer → IsSaid line
      → ((request : Request) → ¬ IsRequest names (without_cr line) request) → ((answer ≡ unknown_line (rights old)) ⊎ (answer ≡ answers.OutOfMemory)) × (new ≡ old)
  no_request names old new line answer (IsTooLong long same) is none_asked = absurd (omega (arith, long, is.short))
  no_request names old new line _ (IsNoText short wrong answer told same) is none_asked = absurd (wrong is.text)
  no_request names old new line answer (IsSkipped short none same) is none_asked = absurd (is.some none)
  no_request names old new line _ (IsNoRequest said none answer told same) is none_asked = (inl told, same)
  no_request names old new line answer (IsUnread said same) is none_asked = (inr refl, same)
  no_request names old new line answer (IsDenied said request asks denied same) is none_asked = absurd (none_asked request asks)
  no_request names old new line answer (IsAsked said request _ asks allowed met) is none_asked = absurd (none_asked request asks)

  pub as_request : (names : List (List ℕ)) (old new : S) (line : List ℕ) (answer : Answer) (request : Request) → IsLineMet (rights old) names seen looks changes (expects names) tells knows stops old new line answer
      → IsSaid line → IsRequest names (without_cr line) request → IsAllowed (rights old) request → IsMet names seen looks changes (expects names) tells knows stops old new request answer
  as_request names old new line answer request (IsTooLong long same) is asked may = absurd (omega (arith, long, is.short))
  as_request names old new line _ request (IsNoText short wrong answer told same) is asked may = absurd (wrong is.text)
  as_request names old new line answer request (IsSkipped short none same) is asked may = absurd (is.some none)
  as_request names old new line _ request (IsNoRequest said none answer told same) is asked may = absurd (none request asked)
  as_request names old new line answer request (IsUnread said same) is asked may = Starves request same
  as_request names old new line answer request (IsDenied said other asks denied same) is asked may =
      absurd (denied (subst (λ r. IsAllowed (rights old) r) (one_request names (without_cr line) request other asked asks) may))
  as_request names old new line answer request (IsAsked said other _ asks allowed met) is asked may =
      subst (λ r. IsMet names seen looks changes (expects names) tells knows stops old new r answer) (one_request names (without_cr line) other request asks asked) met

  pub denied_line : (names : List (List ℕ)) (old new : S) (line : List ℕ) (answer : Answer) (request : Request) → IsLineMet (rights old) names seen looks changes (expects names) tells knows stops old new line answer
      → IsSaid line → IsRequest names (without_cr line) request → ¬ IsAllowed (rights old) request → ((answer ≡ answers.NotAllowed) ⊎ (answer ≡ answers.OutOfMemory)) × (new ≡ old)
  denied_line names old new line answer request (IsTooLong long same) is asked may_not = absurd (omega (arith, long, is.short))
  denied_line names old new line _ request (IsNoText short wrong answer told same) is asked may_not = absurd (wrong is.text)
  denied_line names old new line answer request (IsSkipped short none same) is asked may_not = absurd (is.some none)
  denied_line names old new line _ request (IsNoRequest said none answer told same) is asked may_not = absurd (none request asked)
  denied_line names old new line answer request (IsUnread said same) is asked may_not = (inr refl, same)
  denied_line names old new line answer request (IsDenied said other asks denied same) is asked may_not = (inl refl, same)
  denied_line names old new line answer request (IsAsked said other _ asks allowed met) is asked may_not =
      absurd (may_not (subst (λ r. IsAllowed (rights old) r) (one_request names (without_cr line) other request asks asked) allowed))
