-- Words give one line at most.
use Rattle.std.proofs.Common.{ℕ, ◌≡◌, ◌==◌, ◌<◌, true, List, refl, sym, ap, ◌∙◌, subst, arith, ⊎_elim}
use Rattle.std.specs.Int.{bit_at}
use Rattle.std.proofs.lemmas.Bool.{cases_eq, eqb-true, eq-eqb}
use Rattle.std.proofs.lemmas.Nat.Bits.{bit_at-lt, same_from_bits}
use Rattle.probe_core.specs.declared.rule.Rule.{Rule}
use Rattle.probe_core.specs.declared.rule.Rule.TheVariants.{Threshold, Depends}
use Rattle.probe_core.specs.declared.start.Start.{Start}
use Rattle.probe_core.specs.declared.start.Start.TheVariants as starts
use Rattle.desk_core.specs.declared.order.Order.{Order as OrderOf}
use Rattle.script.specs.declared.line.Line.{Line}
use Rattle.script.specs.declared.line.Line.TheVariants.{Register, Order, Step}
use Rattle.script.specs.declared.expectation.Expectation.{Expectation}
use Rattle.script.specs.declared.question.Question.{Question}
use Rattle.script.specs.declared.question.Question.TheVariants.{Entry}
use Rattle.script.specs.Question.{IsQuestion, IsQuestionText}
use Rattle.script.specs.Question.IsQuestion.{WhyLine, StatusLine, EntryLine}
use Rattle.script.specs.Expectation.{IsExpectation, IsExpectationText, expects}
use Rattle.script.specs.Expectation.IsExpectation.{ExpectLine}
use Rattle.script.specs.Line.{IsMaskOf, IsThreshold, IsRule, IsOrder, IsLine, IsOrderText, IsLineText}
use Rattle.script.specs.Line.IsThreshold.{FallAlone, FallAndRise, UnknownFirst}
use Rattle.script.specs.Line.IsRule.{ThresholdRule, ManualRule, DependsRule}
use Rattle.script.specs.Line.IsOrder.{PassOrder, FailOrder, UpOrder, DownOrder, ShutdownOrder, ResumeOrder}
use Rattle.script.specs.Line.IsLine.{RegisterLine, RetireLine, OrderLine, CheckLine, OpenLine, StepLine, BoardLine}
use Rattle.script.specs.Word.{name_of, IsNumber}

-- two bits that are set alike are equal
same_bit : (m n : ℕ) → m < 2 → n < 2 → ((m == 1) ≡ true → (n == 1) ≡ true) → ((n == 1) ≡ true → (m == 1) ≡ true) → m ≡ n
same_bit m n m_bit n_bit to from =
    ⊎_elim (λ (one : m ≡ 1). one ∙ sym (eqb-true n 1 (to (eq-eqb m 1 one))))
    (λ (not : m ≡ 1 → ⊥).
    let other : n ≡ 1 → ⊥ = λ one. not (eqb-true m 1 (from (eq-eqb n 1 one))) in
    omega arith)
    (cases_eq m 1)

pub one_number : (word : List ℕ) (m n : ℕ) → IsNumber word m → IsNumber word n → m ≡ n
one_number word m n a b = a.value_is ∙ sym b.value_is

pub one_mask : (names words : List (List ℕ)) (m n : ℕ) → IsMaskOf names words m → IsMaskOf names words n → m ≡ n
one_mask names words m n a b =
    same_from_bits m n (λ i. same_bit (bit_at m i) (bit_at n i) (bit_at-lt m i) (bit_at-lt n i) (λ set. (b.bits i).1 ((a.bits i).0 set)) (λ set. (a.bits i).1 ((b.bits i).0 set)))

same_counts : (word other : List ℕ) (fall rise m n : ℕ) (start : Start) → IsNumber word fall → IsNumber word m → IsNumber other rise → IsNumber other n
    → Threshold fall rise start ≡ Threshold m n start
same_counts word other fall rise m n start is_fall is_m is_rise is_n =
    ap (λ f. Threshold f rise start) (one_number word fall m is_fall is_m) ∙ ap (λ r. Threshold m r start) (one_number other rise n is_rise is_n)

one_threshold : (words : List (List ℕ)) (a b : Rule) → IsThreshold words a → IsThreshold words b → a ≡ b
one_threshold words a b (FallAlone word m is_m) (FallAlone same n is_n) = ap (λ fall. Threshold fall 1 starts.Up) (one_number word m n is_m is_n)
one_threshold words a b (FallAndRise word other m r is_m is_r) (FallAndRise same also n q is_n is_q) = same_counts word other m r n q starts.Up is_m is_n is_r is_q
one_threshold words a b (UnknownFirst word other m r is_m is_r) (UnknownFirst same also n q is_n is_q) = same_counts word other m r n q starts.Unknown is_m is_n is_r is_q

pub one_rule : (names words : List (List ℕ)) (a b : Rule) → IsRule names words a → IsRule names words b → a ≡ b
one_rule names words a b (ThresholdRule counts m is_m) (ThresholdRule same n is_n) = one_threshold counts m n is_m is_n
one_rule names words a b ManualRule ManualRule = refl
one_rule names words a b (DependsRule others m is_m) (DependsRule same n is_n) = ap Depends (one_mask names others m n is_m is_n)

pub one_order : (words : List (List ℕ)) (a b : OrderOf) → IsOrder words a → IsOrder words b → a ≡ b
one_order words a b (PassOrder m) (PassOrder n) = refl
one_order words a b (FailOrder m) (FailOrder n) = refl
one_order words a b (UpOrder m) (UpOrder n) = refl
one_order words a b (DownOrder m) (DownOrder n) = refl
one_order words a b ShutdownOrder ShutdownOrder = refl
one_order words a b ResumeOrder ResumeOrder = refl

pub one_line : (names words : List (List ℕ)) (a b : Line) → IsLine names words a → IsLine names words b → a ≡ b
one_line names words a b (RegisterLine m ws r is_r) (RegisterLine n same s is_s) = ap (λ (rule : Rule). Register (name_of m) rule) (one_rule names ws r s is_r is_s)
one_line names words a b (RegisterLine m ws r is_r) (OrderLine all o is_o) = absurd (elim is_o [ ])
one_line names words a b (RetireLine m) (RetireLine n) = refl
one_line names words a b (RetireLine m) (OrderLine all o is_o) = absurd (elim is_o [ ])
one_line names words a b (OrderLine all o is_o) (RegisterLine m ws r is_r) = absurd (elim is_o [ ])
one_line names words a b (OrderLine all o is_o) (RetireLine m) = absurd (elim is_o [ ])
one_line names words a b (OrderLine all o is_o) (OrderLine same p is_p) = ap Order (one_order words o p is_o is_p)
one_line names words a b (OrderLine all o is_o) (CheckLine m) = absurd (elim is_o [ ])
one_line names words a b (OrderLine all o is_o) (OpenLine m) = absurd (elim is_o [ ])
one_line names words a b (OrderLine all o is_o) (StepLine w n is_n) = absurd (elim is_o [ ])
one_line names words a b (OrderLine all o is_o) BoardLine = absurd (elim is_o [ ])
one_line names words a b (CheckLine m) (CheckLine n) = refl
one_line names words a b (CheckLine m) (OrderLine all o is_o) = absurd (elim is_o [ ])
one_line names words a b (OpenLine m) (OpenLine n) = refl
one_line names words a b (OpenLine m) (OrderLine all o is_o) = absurd (elim is_o [ ])
one_line names words a b (StepLine w m is_m) (StepLine same n is_n) = ap Step (one_number w m n is_m is_n)
one_line names words a b (StepLine w m is_m) (OrderLine all o is_o) = absurd (elim is_o [ ])
one_line names words a b BoardLine BoardLine = refl
one_line names words a b BoardLine (OrderLine all o is_o) = absurd (elim is_o [ ])

pub one_line_text : (names : List (List ℕ)) (text : List ℕ) (a b : Line) → IsLineText names text a → IsLineText names text b → a ≡ b
one_line_text names text a b is_a is_b =
    one_line names is_a.words a b is_a.is (subst (λ (words : List (List ℕ)). IsLine names words b) (is_b.are.parted ∙ sym is_a.are.parted) is_b.is)

pub one_order_text : (text : List ℕ) (a b : OrderOf) → IsOrderText text a → IsOrderText text b → a ≡ b
one_order_text text a b is_a is_b =
    one_order is_a.words a b is_a.is (subst (λ (words : List (List ℕ)). IsOrder words b) (is_b.are.parted ∙ sym is_a.are.parted) is_b.is)

one_expectation : (words : List (List ℕ)) (a b : Expectation) → IsExpectation words a → IsExpectation words b → a ≡ b
one_expectation words a b (ExpectLine name word m is_m) (ExpectLine same other n is_n) =
    ap (λ (seconds : ℕ). expects (name_of name) seconds) (one_number word m n is_m.number is_n.number)

pub one_expectation_text : (text : List ℕ) (a b : Expectation) → IsExpectationText text a → IsExpectationText text b → a ≡ b
one_expectation_text text a b is_a is_b =
    one_expectation is_a.words a b is_a.is (subst (λ (words : List (List ℕ)). IsExpectation words b) (is_b.are.parted ∙ sym is_a.are.parted) is_b.is)

-- words that give an expectation give no line
expects_no_line : (names words : List (List ℕ)) (expectation : Expectation) (line : Line) → IsExpectation words expectation → ¬ IsLine names words line
expects_no_line names words expectation line (ExpectLine name word seconds is) (OrderLine all order is_order) = elim is_order [ ]

pub line_or_expectation : (names : List (List ℕ)) (text : List ℕ) (line : Line) (expectation : Expectation) → IsLineText names text line → ¬ IsExpectationText text expectation
line_or_expectation names text line expectation is_line is =
    expects_no_line names is_line.words expectation line (subst (λ (words : List (List ℕ)). IsExpectation words expectation) (is.are.parted ∙ sym is_line.are.parted) is.is) is_line.is

-- words ask one question
one_question : (words : List (List ℕ)) (a b : Question) → IsQuestion words a → IsQuestion words b → a ≡ b
one_question words a b (WhyLine word) (WhyLine same) = refl
one_question words a b (StatusLine word) (StatusLine same) = refl
one_question words a b (EntryLine word m is_m) (EntryLine same n is_n) = ap Entry (one_number word m n is_m is_n)

pub one_question_text : (text : List ℕ) (a b : Question) → IsQuestionText text a → IsQuestionText text b → a ≡ b
one_question_text text a b is_a is_b =
    one_question is_a.words a b is_a.is (subst (λ (words : List (List ℕ)). IsQuestion words b) (is_b.are.parted ∙ sym is_a.are.parted) is_b.is)

-- words that ask a question give no line, and no expectation
asks_no_line : (names words : List (List ℕ)) (question : Question) (line : Line) → IsQuestion words question → ¬ IsLine names words line
asks_no_line names words question line (WhyLine word) (OrderLine all order is_order) = elim is_order [ ]
asks_no_line names words question line (StatusLine word) (OrderLine all order is_order) = elim is_order [ ]
asks_no_line names words question line (EntryLine word place is) (OrderLine all order is_order) = elim is_order [ ]

pub line_or_question : (names : List (List ℕ)) (text : List ℕ) (line : Line) (question : Question) → IsLineText names text line → ¬ IsQuestionText text question
line_or_question names text line question is_line is =
    asks_no_line names is_line.words question line (subst (λ (words : List (List ℕ)). IsQuestion words question) (is.are.parted ∙ sym is_line.are.parted) is.is) is_line.is

asks_no_expectation : (words : List (List ℕ)) (question : Question) (expectation : Expectation) → IsQuestion words question → ¬ IsExpectation words expectation
asks_no_expectation words question expectation (WhyLine word) is = elim is [ ]
asks_no_expectation words question expectation (StatusLine word) is = elim is [ ]
asks_no_expectation words question expectation (EntryLine word place is_place) is = elim is [ ]

pub expectation_or_question : (text : List ℕ) (expectation : Expectation) (question : Question) → IsExpectationText text expectation → ¬ IsQuestionText text question
expectation_or_question text expectation question is_expectation is =
    asks_no_expectation is_expectation.words question expectation
    (subst (λ (words : List (List ℕ)). IsQuestion words question) (is.are.parted ∙ sym is_expectation.are.parted) is.is) is_expectation.is
