-- Words that give a rule, and words that give none.
use Rattle.std.proofs.Common.{ℕ, ◌≡◌, ◌≤◌, ◌<◌, Option, None, Some, Result, Ok, Err, Bor, List, ◌∷◌, length, get_or, codes, refl, sym, ap, ◌∙◌}
use Rattle.probe_core.specs.declared.rule.Rule.{Rule}
use Rattle.probe_core.specs.declared.rule.Rule.TheVariants.{Threshold}
use Rattle.probe_core.specs.declared.start.Start.{Start}
use Rattle.probe_core.specs.declared.start.Start.TheVariants as starts
use Rattle.script.specs.TextLines.{texts}
use Rattle.script.specs.Word.{IsNumber}
use Rattle.script.proofs.WordLemmas.{one_word, two_words, three_words, first_word, first_two}
use Rattle.std.specs.Result.{IfOk}
use Rattle.std.specs.declared.alloc.AllocError.{AllocError}
use Rattle.script.specs.Line.{IsMaskOf, IsThreshold, IsRule}
use Rattle.script.specs.Line.IsThreshold.{FallAlone, FallAndRise, UnknownFirst}
use Rattle.script.specs.Line.IsRule.{ThresholdRule, DependsRule}
use Rattle.script.specs.Reading.{IsReading}

-- the numbers of a threshold are read from its words
pub read_fall : (words : List (Bor (List ℕ))) (default : Bor (List ℕ)) (counts : Option ℕ × Option ℕ × Start) (found : Option ℕ) (fall rise : ℕ) → 1 ≤ length words → length words < 2
    → IsReading IsNumber (get_or words 0 default).now found → counts ≡ (found, Some 1, starts.Up) → counts.0 ≡ Some fall → counts.1 ≡ Some rise
    → IsThreshold (texts words) (Threshold fall rise counts.2)
read_fall words default counts found fall rise least most reads are is_fall is_rise =
    let falls : found ≡ Some fall = ap (λ (c : Option ℕ × Option ℕ × Start). c.0) (sym are) ∙ is_fall in
    let rises : Some 1 ≡ Some rise = ap (λ (c : Option ℕ × Option ℕ × Start). c.1) (sym are) ∙ is_rise in
    let one : rise ≡ 1 = cc in
    let up : counts.2 ≡ starts.Up = ap (λ (c : Option ℕ × Option ℕ × Start). c.2) are in
    rw (up, one, one_word words default _ least most refl) (FallAlone _ fall (rw falls at reads))

pub read_rise : (words : List (Bor (List ℕ))) (default : Bor (List ℕ)) (counts : Option ℕ × Option ℕ × Start) (first second : Option ℕ) (fall rise : ℕ) → 2 ≤ length words → length words < 3
    → IsReading IsNumber (get_or words 0 default).now first → IsReading IsNumber (get_or words 1 default).now second → counts ≡ (first, second, starts.Up) → counts.0 ≡ Some fall → counts.1 ≡ Some rise
    → IsThreshold (texts words) (Threshold fall rise counts.2)
read_rise words default counts first second fall rise least most reads also are is_fall is_rise =
    let falls : first ≡ Some fall = ap (λ (c : Option ℕ × Option ℕ × Start). c.0) (sym are) ∙ is_fall in
    let rises : second ≡ Some rise = ap (λ (c : Option ℕ × Option ℕ × Start). c.1) (sym are) ∙ is_rise in
    let up : counts.2 ≡ starts.Up = ap (λ (c : Option ℕ × Option ℕ × Start). c.2) are in
    rw (up, two_words words default _ least most refl) (FallAndRise _ _ fall rise (rw falls at reads) (rw rises at also))

pub read_unknown : (words : List (Bor (List ℕ))) (default : Bor (List ℕ)) (counts : Option ℕ × Option ℕ × Start) (first second : Option ℕ) (fall rise : ℕ) → 3 ≤ length words → length words < 4
    → (get_or words 2 default).now ≡ codes "unknown" → IsReading IsNumber (get_or words 0 default).now first → IsReading IsNumber (get_or words 1 default).now second
    → counts ≡ (first, second, starts.Unknown) → counts.0 ≡ Some fall → counts.1 ≡ Some rise → IsThreshold (texts words) (Threshold fall rise counts.2)
read_unknown words default counts first second fall rise least most last reads also are is_fall is_rise =
    let falls : first ≡ Some fall = ap (λ (c : Option ℕ × Option ℕ × Start). c.0) (sym are) ∙ is_fall in
    let rises : second ≡ Some rise = ap (λ (c : Option ℕ × Option ℕ × Start). c.1) (sym are) ∙ is_rise in
    let unknown : counts.2 ≡ starts.Unknown = ap (λ (c : Option ℕ × Option ℕ × Start). c.2) are in
    rw (unknown, three_words words default _ least most last) (UnknownFirst _ _ fall rise (rw falls at reads) (rw rises at also))

-- words that begin with no number give no threshold
no_fall : (word : List ℕ) (others : List (List ℕ)) → ((fall : ℕ) → ¬ IsNumber word fall) → (rule : Rule) → ¬ IsThreshold (word ∷ others) rule
no_fall word others none rule (FallAlone same fall is) = none fall is
no_fall word others none rule (FallAndRise same other fall rise is also) = none fall is
no_fall word others none rule (UnknownFirst same other fall rise is also) = none fall is

pub without_fall : (words : List (Bor (List ℕ))) (default : Bor (List ℕ)) (counts : Option ℕ × Option ℕ × Start) (first second : Option ℕ) (start : Start) → 1 ≤ length words
    → IsReading IsNumber (get_or words 0 default).now first → counts ≡ (first, second, start) → counts.0 ≡ None → (rule : Rule) → ¬ IsThreshold (texts words) rule
without_fall words default counts first second start least reads are none =
    let fails : first ≡ None = ap (λ (c : Option ℕ × Option ℕ × Start). c.0) (sym are) ∙ none in
    rw (first_word words default _ least refl) (no_fall _ _ (rw fails at reads))

-- nor do those with no number behind it
no_rise : (word other : List ℕ) (others : List (List ℕ)) → ((rise : ℕ) → ¬ IsNumber other rise) → (rule : Rule) → ¬ IsThreshold (word ∷ other ∷ others) rule
no_rise word other others none rule (FallAndRise same also fall rise is is_rise) = none rise is_rise
no_rise word other others none rule (UnknownFirst same also fall rise is is_rise) = none rise is_rise

pub without_rise : (words : List (Bor (List ℕ))) (default : Bor (List ℕ)) (counts : Option ℕ × Option ℕ × Start) (first second : Option ℕ) (start : Start) → 2 ≤ length words
    → IsReading IsNumber (get_or words 1 default).now second → counts ≡ (first, second, start) → counts.1 ≡ None → (rule : Rule) → ¬ IsThreshold (texts words) rule
without_rise words default counts first second start least reads are none =
    let fails : second ≡ None = ap (λ (c : Option ℕ × Option ℕ × Start). c.1) (sym are) ∙ none in
    rw (first_two words default _ least refl) (no_rise _ _ _ (rw fails at reads))

-- one that is told by default is a number
pub with_one : {X : Type 0} (counts : Option ℕ × Option ℕ × Start) (first : Option ℕ) → counts ≡ (first, Some 1, starts.Up) → counts.1 ≡ None → X
with_one counts first are none =
    let some : counts.1 ≡ Some 1 = ap (λ (c : Option ℕ × Option ℕ × Start). c.1) are in
    cc

-- what is read where the text means it
pub read_as : {A B : Type 0} (Means : A → B → Type 0) (text : A) (value : B) (result : Result (Option B) AllocError) → IfOk result (λ found. found ≡ Some value) → Means text value
    → IfOk result (λ found. IsReading Means text found)
read_as Means text value (Ok found) reads is = rw reads is
read_as Means text value (Err error) reads is = tt

-- a threshold is read as a rule
pub read_threshold : (names words : List (List ℕ)) (result : Option Rule) → IsReading IsThreshold words result → IsReading (IsRule names) (codes "threshold" ∷ words) result
read_threshold names words (Some rule) is = ThresholdRule words rule is
read_threshold names words None none = λ rule is. other rule is
  where
    other : (rule : Rule) → ¬ IsRule names (codes "threshold" ∷ words) rule
    other rule (ThresholdRule same r is_threshold) = none rule is_threshold

-- names without a mask
pub no_mask : (names words : List (List ℕ)) → ((mask : ℕ) → ¬ IsMaskOf names words mask) → (rule : Rule) → ¬ IsRule names (codes "depends" ∷ words) rule
no_mask names words none rule (DependsRule same mask is) = none mask is
