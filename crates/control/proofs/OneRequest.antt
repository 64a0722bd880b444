-- A text is one request at most.
use Rattle.std.proofs.Common.{ℕ, ◌≡◌, List, [], ◌∷◌, get_or, subst, ap, sym, ◌∙◌, arith, refl}
use Rattle.std.specs.Prelude.{◌==◌, codes}
use Rattle.std.specs.List.{slice_split}
use Rattle.script.specs.declared.expectation.Expectation.{Expectation}
use Rattle.script.specs.declared.line.Line.{Line}
use Rattle.script.specs.declared.question.Question.{Question}
use Rattle.script.specs.Expectation.{IsExpectation, IsExpectationText}
use Rattle.script.specs.Question.{IsQuestion, IsQuestionText}
use Rattle.script.specs.Line.{IsLine}
use Rattle.script.specs.Line.IsLine.{OrderLine}
use Rattle.script.proofs.OneLine.{expectation_or_question, line_or_expectation, line_or_question, one_expectation_text, one_line_text, one_question_text}
use Rattle.control.specs.declared.request.Request.{Request}
use Rattle.control.specs.declared.request.Request.TheVariants as requests
use Rattle.control.specs.Request.{IsOfferedText, IsRequest, IsWord}
use Rattle.control.specs.Request.IsRequest.{OfLine, OfExpectation, OfQuestion, OfWord}
use Rattle.control.specs.Request.IsWord.{ForList, ForStats, ForStop}

-- each of three words alone is no line
no_list : (names : List (List ℕ)) (line : Line) → IsLine names (codes "list" ∷ []) line → ⊥
no_list names line (OrderLine _ order is) = elim is [ ]

no_stats : (names : List (List ℕ)) (line : Line) → IsLine names (codes "stats" ∷ []) line → ⊥
no_stats names line (OrderLine _ order is) = elim is [ ]

no_stop : (names : List (List ℕ)) (line : Line) → IsLine names (codes "stop" ∷ []) line → ⊥
no_stop names line (OrderLine _ order is) = elim is [ ]

-- the words of that text
words_of : {names : List (List ℕ)} {text : List ℕ} {line : Line} (word : List ℕ) (words : List (List ℕ)) → slice_split (λ c. c == 32) word ≡ words → text ≡ word
    → IsOfferedText names text line → IsLine names words line
words_of {names} {text} {line} word words split same found =
    subst (λ (all : List (List ℕ)). IsLine names all line) (found.is.are.parted ∙ (ap (slice_split (λ c. c == 32)) same ∙ split)) found.is.is

word_or_line : (names : List (List ℕ)) (text : List ℕ) (request : Request) (line : Line) → IsWord text request → IsOfferedText names text line → ⊥
word_or_line names text request line (ForList _ same) found = no_list names line (words_of (codes "list") (codes "list" ∷ []) refl same found)
word_or_line names text request line (ForStats _ same) found = no_stats names line (words_of (codes "stats") (codes "stats" ∷ []) refl same found)
word_or_line names text request line (ForStop _ same) found = no_stop names line (words_of (codes "stop") (codes "stop" ∷ []) refl same found)

-- one word is no expectation
no_expectation : (word : List ℕ) (expectation : Expectation) → IsExpectation (word ∷ []) expectation → ⊥
no_expectation word expectation is = elim is [ ]

word_or_expectation_by : (text word : List ℕ) (expectation : Expectation) → slice_split (λ c. c == 32) word ≡ word ∷ [] → text ≡ word → IsExpectationText text expectation → ⊥
word_or_expectation_by text word expectation split same found =
    no_expectation word expectation (subst (λ (all : List (List ℕ)). IsExpectation all expectation) (found.are.parted ∙ (ap (slice_split (λ c. c == 32)) same ∙ split)) found.is)

word_or_expectation : (text : List ℕ) (request : Request) (expectation : Expectation) → IsWord text request → IsExpectationText text expectation → ⊥
word_or_expectation text request expectation (ForList _ same) found = word_or_expectation_by text (codes "list") expectation refl same found
word_or_expectation text request expectation (ForStats _ same) found = word_or_expectation_by text (codes "stats") expectation refl same found
word_or_expectation text request expectation (ForStop _ same) found = word_or_expectation_by text (codes "stop") expectation refl same found

-- nor is it a question
no_question : (word : List ℕ) (question : Question) → IsQuestion (word ∷ []) question → ⊥
no_question word question is = elim is [ ]

word_or_question_by : (text word : List ℕ) (question : Question) → slice_split (λ c. c == 32) word ≡ word ∷ [] → text ≡ word → IsQuestionText text question → ⊥
word_or_question_by text word question split same found =
    no_question word question (subst (λ (all : List (List ℕ)). IsQuestion all question) (found.are.parted ∙ (ap (slice_split (λ c. c == 32)) same ∙ split)) found.is)

word_or_question : (text : List ℕ) (request : Request) (question : Question) → IsWord text request → IsQuestionText text question → ⊥
word_or_question text request question (ForList _ same) found = word_or_question_by text (codes "list") question refl same found
word_or_question text request question (ForStats _ same) found = word_or_question_by text (codes "stats") question refl same found
word_or_question text request question (ForStop _ same) found = word_or_question_by text (codes "stop") question refl same found

-- the three words differ in their third byte
list_stats : (text : List ℕ) → text ≡ codes "list" → text ≡ codes "stats" → ⊥
list_stats text is also = let differ : 115 ≡ 97 = ap (λ (t : List ℕ). get_or t 2 0) (sym is ∙ also) in absurd (omega (arith, differ))

list_stop : (text : List ℕ) → text ≡ codes "list" → text ≡ codes "stop" → ⊥
list_stop text is also = let differ : 115 ≡ 111 = ap (λ (t : List ℕ). get_or t 2 0) (sym is ∙ also) in absurd (omega (arith, differ))

stats_stop : (text : List ℕ) → text ≡ codes "stats" → text ≡ codes "stop" → ⊥
stats_stop text is also = let differ : 97 ≡ 111 = ap (λ (t : List ℕ). get_or t 2 0) (sym is ∙ also) in absurd (omega (arith, differ))

one_word : (text : List ℕ) (first second : Request) → IsWord text first → IsWord text second → first ≡ second
one_word text first second (ForList _ a) (ForList _ b) = refl
one_word text first second (ForList _ a) (ForStats _ b) = absurd (list_stats text a b)
one_word text first second (ForList _ a) (ForStop _ b) = absurd (list_stop text a b)
one_word text first second (ForStats _ a) (ForList _ b) = absurd (list_stats text b a)
one_word text first second (ForStats _ a) (ForStats _ b) = refl
one_word text first second (ForStats _ a) (ForStop _ b) = absurd (stats_stop text a b)
one_word text first second (ForStop _ a) (ForList _ b) = absurd (list_stop text b a)
one_word text first second (ForStop _ a) (ForStats _ b) = absurd (stats_stop text b a)
one_word text first second (ForStop _ a) (ForStop _ b) = refl

pub one_request : (names : List (List ℕ)) (text : List ℕ) (first second : Request) → IsRequest names text first → IsRequest names text second → first ≡ second
one_request names text first second (OfLine _ line is) (OfLine _ other also) = ap requests.Line (one_line_text names text line other is.is also.is)
one_request names text first second (OfLine _ line is) (OfWord _ request also) = absurd (word_or_line names text request line also is)
one_request names text first second (OfLine _ line is) (OfExpectation _ expectation also) = absurd (line_or_expectation names text line expectation is.is also)
one_request names text first second (OfExpectation _ expectation is) (OfLine _ line also) = absurd (line_or_expectation names text line expectation also.is is)
one_request names text first second (OfExpectation _ expectation is) (OfExpectation _ other also) = ap requests.Expect (one_expectation_text text expectation other is also)
one_request names text first second (OfExpectation _ expectation is) (OfWord _ request also) = absurd (word_or_expectation text request expectation also is)
one_request names text first second (OfLine _ line is) (OfQuestion _ name also) = absurd (line_or_question names text line name is.is also)
one_request names text first second (OfExpectation _ expectation is) (OfQuestion _ name also) = absurd (expectation_or_question text expectation name is also)
one_request names text first second (OfQuestion _ name is) (OfLine _ line also) = absurd (line_or_question names text line name also.is is)
one_request names text first second (OfQuestion _ name is) (OfExpectation _ expectation also) = absurd (expectation_or_question text expectation name also is)
one_request names text first second (OfQuestion _ name is) (OfQuestion _ other also) = ap requests.Ask (one_question_text text name other is also)
one_request names text first second (OfQuestion _ name is) (OfWord _ request also) = absurd (word_or_question text request name also is)
one_request names text first second (OfWord _ request is) (OfQuestion _ name also) = absurd (word_or_question text request name is also)
one_request names text first second (OfWord _ request is) (OfExpectation _ expectation also) = absurd (word_or_expectation text request expectation is also)
one_request names text first second (OfWord _ request is) (OfLine _ line also) = absurd (word_or_line names text request line is also)
one_request names text first second (OfWord _ request is) (OfWord _ other also) = one_word text request other is also
