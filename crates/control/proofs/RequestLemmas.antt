-- Texts that ask for nothing.
use Rattle.std.proofs.Common.{ℕ, ◌≡◌, List, subst, sym, ◌∙◌, true≢false}
use Rattle.std.specs.Str.{bytes_eq}
use Rattle.std.proofs.lemmas.Slice.Eq.{bytes_eq-Decides}
use Rattle.std.specs.Prelude.{◌↔◌, Bool, true, false, IsTrue, codes}
use Rattle.script.specs.declared.expectation.Expectation.{Expectation}
use Rattle.script.specs.declared.line.Line.{Line}
use Rattle.script.specs.declared.question.Question.{Question}
use Rattle.script.specs.Expectation.{IsExpectationText}
use Rattle.script.specs.Line.{IsLineText}
use Rattle.script.specs.Question.{IsQuestionText}
use Rattle.script.proofs.OneLine.{one_line_text}
use Rattle.control.specs.declared.request.Request.{Request}
use Rattle.control.specs.Request.{IsOffered, IsOfferedText, IsRequest, IsWord}
use Rattle.control.specs.Request.IsRequest.{OfLine, OfExpectation, OfQuestion, OfWord}
use Rattle.control.specs.Request.IsWord.{ForList, ForStats, ForStop}

-- a text that is none of the words, no expectation, no question, and no line that is offered
pub no_request : (names : List (List ℕ)) (text : List ℕ) → ((request : Request) → ¬ IsWord text request)
    → ((expectation : Expectation) → ¬ IsExpectationText text expectation) → ((question : Question) → ¬ IsQuestionText text question) → ((line : Line) → ¬ IsOfferedText names text line)
    → (request : Request) → ¬ IsRequest names text request
no_request names text word expectation question line request (OfLine _ found is) = line found is
no_request names text word expectation question line request (OfExpectation _ found is) = expectation found is
no_request names text word expectation question line request (OfQuestion _ found is) = question found is
no_request names text word expectation question line request (OfWord _ _ is) = word request is

-- a text that is none of the words
pub no_word : (text : List ℕ) → ¬ text ≡ codes "list" → ¬ text ≡ codes "stats" → ¬ text ≡ codes "stop" → (request : Request) → ¬ IsWord text request
no_word text list stats stop request (ForList _ is) = list is
no_word text list stats stop request (ForStats _ is) = stats is
no_word text list stats stop request (ForStop _ is) = stop is

-- a text that was found equal to a word
pub is_word : (text word : List ℕ) (equal : Bool) → equal ≡ bytes_eq text word → equal ≡ true → text ≡ word
is_word text word equal is true_ = (bytes_eq-Decides text word).0 (sym is ∙ true_)

-- a text whose line is not offered
pub not_offered : (names : List (List ℕ)) (text : List ℕ) (line : Line) → IsLineText names text line → (is_offered : Bool) → IsTrue is_offered ↔ IsOffered line → is_offered ≡ false
    → (other : Line) → ¬ IsOfferedText names text other
not_offered names text line is false tells wrong other offered = true≢false (sym (tells.1 (subst IsOffered (one_line_text names text other line offered.is is) offered.offered)))
not_offered names text line is true tells wrong other offered = true≢false wrong

-- a text that is no line
pub no_line : (names : List (List ℕ)) (text : List ℕ) → ((line : Line) → ¬ IsLineText names text line) → (other : Line) → ¬ IsOfferedText names text other
no_line names text none other offered = none other offered.is
