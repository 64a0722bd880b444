-- The lines of what was given, one after the other.
use Rattle.std.proofs.Common.{ℕ, ◌≡◌, ◌≢◌, ◌≤◌, ◌⊎◌, inl, inr, ◌==◌, Bool, true, false, List, [], ◌∷◌, ◌++◌, length, sym, refl, ap, ◌∙◌, subst, append_assoc, append-nil, arith, ⊎_elim, length-append}
use Rattle.std.specs.Prelude.{if◌then◌else◌, All, Contains}
use Rattle.std.proofs.lemmas.Bool.{eqb-true, eq-eqb}
use Rattle.std.proofs.lemmas.List.Elements.{All-nil, All-cons}
use Rattle.std.proofs.lemmas.Grind.{flat_map-append}
use Rattle.control.specs.declared.answer.Answer.{Answer}
use Rattle.control.specs.Session.{IsClosed, IsWithin, behind_line, ends_open, first_line}
use Rattle.control.specs.Talk.{IsCut, AreLines, AreMet, IsOverAfter, nobody, answer_texts}
use Rattle.control.specs.Talk.IsCut.{AtLf, TooLong}
use Rattle.control.specs.Talk.AreLines.{NoMore, OneMore}
use Rattle.control.specs.Talk.AreMet.{Ends, Then, Moves}
use Rattle.control.specs.Text.{answer_text, ends_session}

abbrev pub NoLf : List ℕ → Type 0
NoLf line = All (λ byte. byte ≢ 10) line

not_ten : (c : ℕ) → (c == 10) ≡ false → c ≢ 10
not_ten c false_ is = absurd (grind (arith, false_, eq-eqb c 10 is))

-- no byte of the first line is LF
no_lf_by : (b : Bool) (c : ℕ) (line : List ℕ) → (c == 10) ≡ b → NoLf line → NoLf (if b then [] else c ∷ line)
no_lf_by true c line is none = All-nil (λ byte. byte ≢ 10)
no_lf_by false c line is none = All-cons (λ byte. byte ≢ 10) c line (not_ten c is) none

no_lf : (bytes : List ℕ) → NoLf (first_line bytes)
no_lf [] = All-nil (λ byte. byte ≢ 10)
no_lf (c ∷ rest) = no_lf_by (c == 10) c (first_line rest) refl (no_lf rest)

-- LF and what stands behind the first line are the rest of the bytes, or the first line is all of them
abbrev pub IsSplit : List ℕ → List ℕ → List ℕ → Type 0
IsSplit bytes line behind = (bytes ≡ line ++ 10 ∷ behind) ⊎ ((line ≡ bytes) × (behind ≡ []))

split_by : (b : Bool) (c : ℕ) (rest line behind : List ℕ) → (c == 10) ≡ b → IsSplit rest line behind
    → IsSplit (c ∷ rest) (if b then [] else c ∷ line) (if b then rest else behind)
split_by true c rest line behind is split = inl (ap (λ d. d ∷ rest) (eqb-true c 10 is))
split_by false c rest line behind is split = ⊎_elim (λ e. inl (ap (λ l. c ∷ l) e)) (λ e. inr (ap (λ l. c ∷ l) e.0, e.1)) split

split : (bytes : List ℕ) → IsSplit bytes (first_line bytes) (behind_line bytes)
split [] = inr (refl, refl)
split (c ∷ rest) = split_by (c == 10) c rest (first_line rest) (behind_line rest) refl (split rest)

no_such : (bytes : List ℕ) → NoLf bytes → Contains bytes 10 → ⊥
no_such bytes none (k, within, is) = none k 10 within is

cut_by : (bytes line behind : List ℕ) → length bytes ≤ 1025 → (Contains bytes 10 ⊎ (1025 ≤ length bytes)) → NoLf line → IsSplit bytes line behind
    → IsCut bytes line behind
cut_by bytes line behind most has none (inl is) = AtLf is none (omega (arith, ap length is, length-append line (10 ∷ behind), most))
cut_by bytes line behind most has none (inr (all, left)) =
    TooLong (sym (ap (λ l. line ++ l) left ∙ (append-nil line ∙ all))) none
    (⊎_elim (λ found. absurd (no_such bytes (subst NoLf all none) found)) (λ (many : 1025 ≤ length bytes). omega (arith, ap length all, most, many)) has)

cut_closed : (bytes line behind : List ℕ) → length bytes ≡ 1026 → length line ≤ 1024 → NoLf line → IsSplit bytes line behind → IsCut bytes line behind
cut_closed bytes line behind size first none (inl is) = AtLf is none first
cut_closed bytes line behind size first none (inr (all, left)) = absurd (omega (arith, ap length all, size, first))

-- the first line is cut from the bytes that a session holds
pub cut : (bytes : List ℕ) → IsWithin bytes → (Contains bytes 10 ⊎ (1025 ≤ length bytes)) → IsCut bytes (first_line bytes) (behind_line bytes)
cut bytes within has = ⊎_elim
    (λ (most : length bytes ≤ 1025). cut_by bytes (first_line bytes) (behind_line bytes) most has (no_lf bytes) (split bytes))
    (λ (closed : IsClosed bytes). cut_closed bytes (first_line bytes) (behind_line bytes) closed.size closed.first (no_lf bytes) (split bytes))
    within

-- the first line stays where more bytes come
cut_more : (bytes line behind more : List ℕ) → IsCut bytes line behind → IsCut (bytes ++ more) line (behind ++ more)
cut_more bytes line behind more (AtLf is none short) = AtLf (ap (λ l. l ++ more) is ∙ append_assoc line (10 ∷ behind) more) none short
cut_more bytes line behind more (TooLong is none long) = TooLong (ap (λ l. l ++ more) is ∙ append_assoc line behind more) none long

-- so do all lines
pub lines_more : {bytes : List ℕ} {lines : List (List ℕ)} {rest : List ℕ} (more : List ℕ) → AreLines bytes lines rest → AreLines (bytes ++ more) lines (rest ++ more)
lines_more more (NoMore rest) = NoMore (rest ++ more)
lines_more more (OneMore bytes line behind lines rest cut are) =
    OneMore (bytes ++ more) line (behind ++ more) lines (rest ++ more) (cut_more bytes line behind more cut) (lines_more more are)

-- lines, and then more lines of the rest
pub lines_then : {bytes between rest : List ℕ} {lines more : List (List ℕ)} → AreLines bytes lines between → AreLines between more rest → AreLines bytes (lines ++ more) rest
lines_then (NoMore _) later = later
lines_then {rest = last} {more = more} (OneMore bytes line behind lines rest cut are) later = OneMore bytes line behind (lines ++ more) last cut (lines_then are later)

pub one_line : {bytes line rest : List ℕ} → IsCut bytes line rest → AreLines bytes (line ∷ []) rest
one_line {bytes} {line} {rest} cut = OneMore bytes line rest [] rest cut (NoMore rest)

module _ {S : Type 0} {meets : S → S → List ℕ → Answer → Type 0} where
  -- lines that are met, and then more lines
  pub met_then : {others : S → S → Type 0} {old between new : S} {lines more : List (List ℕ)} {answers later : List Answer} → AreMet others meets old between lines answers
      → AreMet others meets between new more later → AreMet others meets old new (lines ++ more) (answers ++ later)
  met_then (Ends _) next = next
  met_then {new = last} {more = more} {later = later} (Then old between new line answer lines answers met are) next =
      Then old between last line answer (lines ++ more) (answers ++ later) met (met_then are next)
  met_then {new = last} {more = more} {later = later} (Moves old between new lines answers moves are) next =
      Moves old between last (lines ++ more) (answers ++ later) moves (met_then are next)

  -- where nobody else moved the state on, the same is so whoever may have
  pub met_beside : {others : S → S → Type 0} {old new : S} {lines : List (List ℕ)} {answers : List Answer} → AreMet nobody meets old new lines answers
      → AreMet others meets old new lines answers
  met_beside (Ends state) = Ends state
  met_beside (Then old between new line answer lines answers met are) = Then old between new line answer lines answers met (met_beside are)
  met_beside (Moves old between new lines answers moves are) = absurd moves

-- the texts of answers, and then of more answers
pub texts_then : (names : List (List ℕ)) (answers later : List Answer) → answer_texts names (answers ++ later) ≡ answer_texts names answers ++ answer_texts names later
texts_then names answers later = flat_map-append (answer_text names) answers later

-- answers, and then more answers
pub over_then : (before between after : Bool) (answers later : List Answer) → IsOverAfter before answers between → IsOverAfter between later after
    → IsOverAfter before (answers ++ later) after
over_then before between after [] later same next = subst (λ b. IsOverAfter b later after) (sym same) next
over_then before between after (answer ∷ answers) later (open_, rest) next = (open_, over_then (ends_session answer) between after answers later rest next)

-- bytes that do not end open do not end open behind their first line
closed_by : (b : Bool) (rest behind : List ℕ) → ends_open rest ≡ false → ends_open behind ≡ false → ends_open (if b then rest else behind) ≡ false
closed_by true rest behind all part = all
closed_by false rest behind all part = part

pub stays_closed : (bytes : List ℕ) → ends_open bytes ≡ false → ends_open (behind_line bytes) ≡ false
stays_closed [] is = refl
stays_closed (c ∷ []) is = closed_by (c == 10) [] [] refl refl
stays_closed (c ∷ d ∷ rest) is = closed_by (c == 10) (d ∷ rest) (behind_line (d ∷ rest)) is (stays_closed (d ∷ rest) is)
