-- The lines of a script, one after another, and its faults.
use Rattle.std.proofs.Common.{ℕ, suc, sym, ◌≡◌, ◌≢◌, ◌≤◌, ◌↔◌, Bool, true, false, IsTrue, List, [], ◌∷◌, ◌++◌, length, append_assoc, length-append, map, take, refl, ap, Option, None, Some, Result, Ok, Err, IfOk, ◌∙◌, subst, arith}
use Rattle.std.proofs.lemmas.List.{append-nil, take-map}
use Rattle.std.proofs.Math.Seq.{take-append_seam}
use Rattle.std.specs.Str.{IsUtf8}
use Rattle.desk_core.specs.declared.order.Order.{Order as OrderOf}
use Rattle.script.specs.declared.expectation.Expectation.{Expectation}
use Rattle.script.specs.declared.expectation.ScriptExpectation.{ScriptExpectation}
use Rattle.script.specs.declared.line.Line.{Line}
use Rattle.script.specs.declared.line.Line.TheVariants.{Register, Retire, Order, Check, Open, Step, Board}
use Rattle.script.specs.declared.script.Mode.{Mode}
use Rattle.script.specs.declared.script.Mode.TheVariants.{Replay, Serve, Run}
use Rattle.script.specs.declared.script_fault.ScriptFault.{ScriptFault}
use Rattle.script.specs.declared.script_fault.ScriptFault.TheVariants.{BadLine}
use Rattle.script.specs.Expectation.{IsExpectationText}
use Rattle.script.specs.Line.{IsLineText, IsOrderText}
use Rattle.script.specs.Reading.{IsReading}
use Rattle.script.specs.TextLines.{Left, left_from, with_line, first_numbers}
use Rattle.script.specs.Opening.{TakesCatalogue, TakesMax, IsCatalogueFault, IsMaxFault}
use Rattle.script.specs.Script.{watches_after, IsStepOfOpened, StepsFollow, IsAllowed, IsNextLine, IsNextExpectation, IsGo, standing, PartsLines, Parts, TakesLines, IsLinesFault, AreOrders}
use Rattle.script.specs.Script.{IsOrdersFault, IsText, Opens, IsScript, IsScriptFault, ScriptParts}
use Rattle.script.proofs.OneLine.{one_line_text}
use Rattle.script.specs.Script.PartsLines.{NoneLeft, IsOne, IsOther}
use Rattle.script.specs.Script.TakesLines.{AtEnd, AtGo, NextLine}
use Rattle.script.specs.Script.IsLinesFault.{BadHere, BadLater, BadBehind}
use Rattle.script.specs.Script.AreOrders.{NoOrder, NextOrder}
use Rattle.script.specs.Script.IsOrdersFault.{NotHere, NotLater}
use Rattle.script.specs.Script.IsScriptFault.{InCatalogue, InMax, InLines, InOrders}

-- a line that may not stand there is no next line, and no other is
pub not_allowed : (mode : Mode) (names : List (List ℕ)) (watches : ℕ) (text : List ℕ) (line : Line) (allowed : Bool) → IsLineText names text line
    → (IsTrue allowed ↔ IsAllowed mode watches line) → allowed ≡ false
    → (other : Line) → ¬ IsNextLine mode names watches text other
not_allowed mode names watches text line allowed is tells failed other next =
    let same : other ≡ line = one_line_text names text other line next.is is in
    let yes : allowed ≡ true = tells.1 (subst (λ (one : Line). IsAllowed mode watches one) same next.allowed) in
    cc

-- text that gives no line is no next line
pub no_next : (mode : Mode) (names : List (List ℕ)) (watches : ℕ) (text : List ℕ) → ((line : Line) → ¬ IsLineText names text line) → (line : Line) → ¬ IsNextLine mode names watches text line
no_next mode names watches text none line next = none line next.is

-- a test that fails
pub fails : {P : Type 0} (test : Bool) → (IsTrue test ↔ P) → test ≡ false → ¬ P
fails test tells failed holds = let yes : test ≡ true = tells.1 holds in cc

-- in a script to run what is read is the expectation that the text gives
pub runs : {E : Type 0} (text : List ℕ) (result : Result (Option Expectation) E) → IfOk result (λ expectation. IsReading IsExpectationText text expectation)
    → IfOk result (λ expectation. IsReading (IsNextExpectation Run) text expectation)
runs text (Ok None) none = λ expectation next. none expectation next.is
runs text (Ok (Some expectation)) is = record { runs = refl; is = is }
runs text (Err error) is = tt

-- in a script that is not one to run no text is an expectation
pub no_expectation : (mode : Mode) (text : List ℕ) → mode ≢ Run → (expectation : Expectation) → ¬ IsNextExpectation mode text expectation
no_expectation mode text other expectation next = other next.runs

-- the lines behind a start: these expectations, and others, of which these lines are the first, up to the others that are left
pub record Through (mode : Mode) (names : List (List ℕ)) (start : List (ℕ × List ℕ)) (lines : List Line) (numbers : List ℕ) (expectations : List ScriptExpectation)
    (left rest : List (ℕ × List ℕ)) : Type 0 where
  pub others : List (ℕ × List ℕ)
  pub parted : PartsLines mode 0 start expectations others
  pub takes : TakesLines mode names 0 others lines rest
  pub all : map (λ line. line.0) others ≡ numbers ++ map (λ line. line.0) left

-- what was read so far: these lines and expectations lead from the start to what is left now
pub record Reading (mode : Mode) (names : List (List ℕ)) (start : List (ℕ × List ℕ)) (watches : ℕ) (lines : List Line) (numbers : List ℕ)
    (expectations : List ScriptExpectation) (now : List (ℕ × List ℕ)) : Type 0 where
  pub on : (more : List Line) (later : List ScriptExpectation) (left rest : List (ℕ × List ℕ)) → PartsLines mode (length lines) now later left
      → TakesLines mode names watches left more rest → Through mode names start (lines ++ more) numbers (expectations ++ later) left rest
  pub fault : (fault : ScriptFault) → IsLinesFault mode names watches now fault → IsLinesFault mode names 0 start fault
  pub few : watches ≤ length lines
  pub each : length numbers ≡ length lines

-- what is left begins with the line
lines_left : (left rest : Left) (line : ℕ × List ℕ) → left ≡ with_line line rest → left.lines ≡ line ∷ rest.lines
lines_left left rest line parts = ap (λ (all : Left). all.lines) parts

-- a line opens at most one watch
one_watch : (line : Line) (watches : ℕ) → watches_after line watches ≤ suc watches
one_watch (Register name rule) watches = omega arith
one_watch (Retire name) watches = omega arith
one_watch (Order order) watches = omega arith
one_watch (Check name) watches = omega arith
one_watch (Open name) watches = omega arith
one_watch (Step k) watches = omega arith
one_watch Board watches = omega arith

-- a line more is the first of those that are left
line_more : (mode : Mode) (names : List (List ℕ)) (start : List (ℕ × List ℕ)) (lines more : List Line) (numbers : List ℕ) (expectations : List ScriptExpectation)
    (left rest : List (ℕ × List ℕ)) (number : ℕ) (text : List ℕ) (line : Line)
    → Through mode names start (lines ++ line ∷ more) numbers expectations ((number, text) ∷ left) rest
    → Through mode names start ((lines ++ line ∷ []) ++ more) (numbers ++ number ∷ []) expectations left rest
line_more mode names start lines more numbers expectations left rest number text line through = record {
  others = through.others;
  parted = through.parted;
  takes = rw append_assoc through.takes;
  all = through.all ∙ sym (append_assoc numbers (number ∷ []) (map (λ line. line.0) left));
}

-- one line more
pub next : (mode : Mode) (names : List (List ℕ)) (start : List (ℕ × List ℕ)) (watches after : ℕ) (lines new : List Line) (numbers counts : List ℕ)
    (expectations : List ScriptExpectation) (left rest : Left) (number : ℕ) (text : List ℕ) (line : Line)
    → Reading mode names start watches lines numbers expectations left.lines → left ≡ with_line (number, text) rest
    → ((expectation : Expectation) → ¬ IsNextExpectation mode text expectation) → IsNextLine mode names watches text line → after ≡ watches_after line watches
    → new ≡ lines ++ line ∷ [] → counts ≡ numbers ++ number ∷ [] → Reading mode names start after new counts expectations rest.lines
next mode names start watches after lines new numbers counts expectations left rest number text line so_far parts none is counted pushed numbered =
    let at : left.lines ≡ (number, text) ∷ rest.lines = lines_left left rest (number, text) parts in
    let few : watches ≤ length lines = so_far.few in
    let each : length numbers ≡ length lines = so_far.each in
    let longer : length (lines ++ line ∷ []) ≡ suc (length lines) = omega (arith, length-append lines (line ∷ [])) in
    rw (counted, pushed, numbered) (record {
      on = λ more later others behind parted takes.
          line_more mode names start lines more numbers (expectations ++ later) others behind number text line
          (so_far.on (line ∷ more) later ((number, text) ∷ others) behind
          (rw at (IsOther (length lines) number text rest.lines others later none (subst (λ (n : ℕ). PartsLines mode n rest.lines later others) longer parted)))
          (NextLine watches number text line others behind more is takes));
      fault = λ fault later. so_far.fault fault (rw at (BadLater watches number text line rest.lines fault is later));
      few = omega (arith, one_watch line watches, length-append lines (line ∷ []));
      each = omega (arith, length-append lines (line ∷ []), length-append numbers (number ∷ []));
    })

-- one expectation more
pub next_expectation : (mode : Mode) (names : List (List ℕ)) (start : List (ℕ × List ℕ)) (watches behind : ℕ) (lines : List Line) (numbers : List ℕ)
    (expectations new : List ScriptExpectation) (left rest : Left) (number : ℕ) (text : List ℕ) (expectation : Expectation)
    → Reading mode names start watches lines numbers expectations left.lines → left ≡ with_line (number, text) rest
    → IsNextExpectation mode text expectation → behind ≡ length lines → new ≡ expectations ++ standing number behind expectation ∷ []
    → Reading mode names start watches lines numbers new rest.lines
next_expectation mode names start watches behind lines numbers expectations new left rest number text expectation so_far parts is counted pushed =
    let at : left.lines ≡ (number, text) ∷ rest.lines = lines_left left rest (number, text) parts in
    rw (pushed, counted) (record {
      on = λ more later others ends parted takes.
          rw append_assoc (so_far.on more (standing number (length lines) expectation ∷ later) others ends
          (rw at (IsOne (length lines) number text expectation rest.lines others later is parted)) takes);
      fault = λ fault later. so_far.fault fault (rw at (BadBehind watches number text expectation rest.lines fault is later));
      few = so_far.few;
      each = so_far.each;
    })

-- the numbers are the first ones
numbers_taken : (others left : List (ℕ × List ℕ)) (count : ℕ) (numbers : List ℕ) → map (λ line. line.0) others ≡ numbers ++ map (λ line. line.0) left → length numbers ≡ count
    → numbers ≡ first_numbers count others
numbers_taken others left count numbers all each =
    sym (take-append_seam numbers (map (λ line. line.0) left)) ∙ ap (take (length numbers)) (sym all) ∙ ap (λ (n : ℕ). take n (map (λ line. line.0) others)) each
    ∙ take-map (λ line. line.0) count others

-- what was taken of a text up to `go` or to its end
abbrev pub IsTaken : Mode → List (List ℕ) → Left → List Line → List ℕ → List ScriptExpectation → List (ℕ × List ℕ) → Type 0
IsTaken mode names start lines numbers expectations rest =
    (others : Left) × Parts mode start expectations others × TakesLines mode names 0 others.lines lines rest × (numbers ≡ first_numbers (length lines) others.lines)

taken : (mode : Mode) (names : List (List ℕ)) (start : Left) (lines : List Line) (numbers : List ℕ) (expectations : List ScriptExpectation) (left rest : List (ℕ × List ℕ))
    → length numbers ≡ length lines → Through mode names start.lines (lines ++ []) numbers (expectations ++ []) left rest → IsTaken mode names start lines numbers expectations rest
taken mode names start lines numbers expectations left rest each through =
    let others : Left = record { lines = through.others; end = start.end } in (
      others,
      record { lines = subst (λ (all : List ScriptExpectation). PartsLines mode 0 start.lines all through.others) (append-nil expectations) through.parted; end = refl },
      subst (λ (all : List Line). TakesLines mode names 0 through.others all rest) (append-nil lines) through.takes,
      numbers_taken through.others left (length lines) numbers through.all each,
    )

-- nothing is left
pub ends : (mode : Mode) (names : List (List ℕ)) (start : Left) (now behind : List (ℕ × List ℕ)) (watches : ℕ) (lines : List Line) (numbers : List ℕ)
    (expectations : List ScriptExpectation) → Reading mode names start.lines watches lines numbers expectations now → now ≡ [] → behind ≡ []
    → IsTaken mode names start lines numbers expectations behind
ends mode names start now behind watches lines numbers expectations so_far none no_more =
    rw no_more (taken mode names start lines numbers expectations [] [] so_far.each (so_far.on [] [] [] [] (rw none (NoneLeft (length lines))) (AtEnd watches)))

-- in a script to be served all lines are others
all_others : (mode : Mode) (behind : ℕ) (lines : List (ℕ × List ℕ)) → mode ≢ Run → PartsLines mode behind lines [] lines
all_others mode behind [] other = NoneLeft behind
all_others mode behind (line ∷ lines) other =
    IsOther behind line.0 line.1 lines lines [] (no_expectation mode line.1 other) (all_others mode (suc behind) lines other)

-- `go` comes
pub goes : (mode : Mode) (names : List (List ℕ)) (start : Left) (watches : ℕ) (lines : List Line) (numbers : List ℕ) (expectations : List ScriptExpectation)
    (left rest : Left) (number : ℕ) (text : List ℕ) → Reading mode names start.lines watches lines numbers expectations left.lines
    → left ≡ with_line (number, text) rest → IsGo mode text → IsTaken mode names start lines numbers expectations rest.lines
goes mode names start watches lines numbers expectations left rest number text so_far parts is =
    let serves : mode ≡ Serve = is.serves in
    let other : mode ≢ Run = λ runs. (let both : Serve ≡ Run = sym serves ∙ runs in cc) in
    taken mode names start lines numbers expectations left.lines rest.lines so_far.each
    (so_far.on [] [] left.lines rest.lines (all_others mode (length lines) left.lines other) (rw (lines_left left rest (number, text) parts) (AtGo watches number text rest.lines is)))

-- a bad line comes
pub stuck : (mode : Mode) (names : List (List ℕ)) (start : List (ℕ × List ℕ)) (watches : ℕ) (lines : List Line) (numbers : List ℕ) (expectations : List ScriptExpectation)
    (left rest : Left) (number : ℕ) (text : List ℕ) → Reading mode names start watches lines numbers expectations left.lines → left ≡ with_line (number, text) rest
    → ¬ IsGo mode text → ((expectation : Expectation) → ¬ IsNextExpectation mode text expectation) → ((line : Line) → ¬ IsNextLine mode names watches text line)
    → IsLinesFault mode names 0 start (BadLine number)
stuck mode names start watches lines numbers expectations left rest number text so_far parts other unexpected none =
    so_far.fault (BadLine number) (rw (lines_left left rest (number, text) parts) (BadHere watches number text rest.lines other unexpected none))

-- a line that is allowed steps in no watch that was not opened
allowed_step : (mode : Mode) (line : Line) (watches : ℕ) → IsAllowed mode watches line → IsStepOfOpened line watches
allowed_step Replay line watches is = is
allowed_step Serve (Register name rule) watches is = tt
allowed_step Serve (Retire name) watches is = tt
allowed_step Serve (Order order) watches is = tt
allowed_step Serve (Check name) watches is = tt
allowed_step Serve (Open name) watches is = tt
allowed_step Serve (Step k) watches is = absurd is
allowed_step Serve Board watches is = tt
allowed_step Run (Register name rule) watches is = tt
allowed_step Run (Retire name) watches is = tt
allowed_step Run (Order order) watches is = tt
allowed_step Run (Check name) watches is = tt
allowed_step Run (Open name) watches is = tt
allowed_step Run (Step k) watches is = absurd is
allowed_step Run Board watches is = tt

-- the lines of a script are steps of opened watches
steps_follow : (mode : Mode) (names : List (List ℕ)) (watches : ℕ) (body : List (ℕ × List ℕ)) (lines : List Line) (rest : List (ℕ × List ℕ)) → TakesLines mode names watches body lines rest
    → StepsFollow watches lines
steps_follow mode names watches body lines rest (AtEnd w) = tt
steps_follow mode names watches body lines rest (AtGo w number text behind is) = tt
steps_follow mode names watches body lines rest (NextLine w number text line others behind more is takes) =
    (allowed_step mode line w is.allowed, steps_follow mode names (watches_after line w) others more behind takes)

-- the orders that were read so far
pub record Ordering (start : List (ℕ × List ℕ)) (orders : List OrderOf) (now : List (ℕ × List ℕ)) : Type 0 where
  pub on : (more : List OrderOf) → AreOrders now more → AreOrders start (orders ++ more)
  pub fault : (fault : ScriptFault) → IsOrdersFault now fault → IsOrdersFault start fault

-- one order more
pub next_order : (start : List (ℕ × List ℕ)) (orders new : List OrderOf) (left rest : Left) (number : ℕ) (text : List ℕ) (order : OrderOf)
    → Ordering start orders left.lines → left ≡ with_line (number, text) rest
    → IsOrderText text order → new ≡ orders ++ order ∷ [] → Ordering start new rest.lines
next_order start orders new left rest number text order so_far parts is pushed =
    let at : left.lines ≡ (number, text) ∷ rest.lines = lines_left left rest (number, text) parts in
    rw pushed (record {
      on = λ more are. rw append_assoc (so_far.on (order ∷ more) (rw at (NextOrder number text order rest.lines more is are)));
      fault = λ fault later. so_far.fault fault (rw at (NotLater number text order rest.lines fault is later));
    })

-- nothing is left
pub ends_orders : (start now : List (ℕ × List ℕ)) (orders : List OrderOf) → Ordering start orders now → now ≡ [] → AreOrders start orders
ends_orders start now orders so_far none = subst (λ (all : List OrderOf). AreOrders start all) (append-nil orders) (so_far.on [] (rw none NoOrder))

-- a line that is no order comes
pub stuck_orders : (start : List (ℕ × List ℕ)) (orders : List OrderOf) (left rest : Left) (number : ℕ) (text : List ℕ) → Ordering start orders left.lines → left ≡ with_line (number, text) rest
    → ((order : OrderOf) → ¬ IsOrderText text order) → IsOrdersFault start (BadLine number)
stuck_orders start orders left rest number text so_far parts none =
    so_far.fault (BadLine number) (rw (lines_left left rest (number, text) parts) (NotHere number text rest.lines none))

-- the bytes are text, and this is left at its start
pub record Begun (mode : Mode) (bytes : List ℕ) (start : Left) : Type 0 where
  pub is_text : IsText bytes
  pub is : start ≡ left_from mode 1 bytes

pub begun : (mode : Mode) (bytes text : List ℕ) (start : Left) → length bytes ≤ 65536 → IsUtf8 bytes → text ≡ bytes → start ≡ left_from mode 1 text → Begun mode bytes start
begun mode bytes text start short utf8 same is = record { is_text = record { short = short; text = utf8 }; is = is ∙ ap (left_from mode 1) same }

-- a script opens
pub opened : (mode : Mode) (bytes : List ℕ) (start behind body : Left) (names : List (List ℕ)) (max : ℕ) → Begun mode bytes start
    → TakesCatalogue start names behind → TakesMax mode behind max body → Opens mode bytes names max body
opened mode bytes start behind body names max so_far catalogue most =
    record { is_text = so_far.is_text; behind_catalogue = behind; catalogue = subst (λ (left : Left). TakesCatalogue left names behind) so_far.is catalogue; most = most }

-- the faults of a text, by the place where they stand
pub in_catalogue : (mode : Mode) (bytes : List ℕ) (start : Left) (fault : ScriptFault) → Begun mode bytes start → IsCatalogueFault start fault → IsScriptFault mode bytes fault
in_catalogue mode bytes start fault so_far is = InCatalogue fault so_far.is_text (subst (λ (left : Left). IsCatalogueFault left fault) so_far.is is)

pub in_max : (mode : Mode) (bytes : List ℕ) (start behind : Left) (names : List (List ℕ)) (fault : ScriptFault) → Begun mode bytes start → TakesCatalogue start names behind
    → (mode ≢ Run) × IsMaxFault behind fault → IsScriptFault mode bytes fault
in_max mode bytes start behind names fault so_far catalogue is =
    InMax names behind fault so_far.is_text (subst (λ (left : Left). TakesCatalogue left names behind) so_far.is catalogue) is.0 is.1

pub in_lines : (mode : Mode) (bytes : List ℕ) (start behind opening : Left) (names : List (List ℕ)) (max : ℕ) (fault : ScriptFault)
    → Begun mode bytes start → TakesCatalogue start names behind → TakesMax mode behind max opening
    → IsLinesFault mode names 0 opening.lines fault → IsScriptFault mode bytes fault
in_lines mode bytes start behind opening names max fault so_far catalogue most is =
    InLines names max opening fault (opened mode bytes start behind opening names max so_far catalogue most) is

pub in_orders : (mode : Mode) (bytes : List ℕ) (start behind opening : Left) (names : List (List ℕ)) (max : ℕ) (lines : List Line) (numbers : List ℕ)
    (expectations : List ScriptExpectation) (rest : List (ℕ × List ℕ)) (fault : ScriptFault) → Begun mode bytes start
    → TakesCatalogue start names behind → TakesMax mode behind max opening → IsTaken mode names opening lines numbers expectations rest → IsOrdersFault rest fault → IsScriptFault mode bytes fault
in_orders mode bytes start behind opening names max lines numbers expectations rest fault so_far catalogue most is wrong =
    InOrders names max opening is.0 expectations lines rest fault (opened mode bytes start behind opening names max so_far catalogue most) is.1 is.2 wrong

-- all parts of a script
pub whole : (mode : Mode) (bytes : List ℕ) (start behind opening : Left) (names : List (List ℕ)) (max : ℕ) (lines : List Line) (numbers : List ℕ)
    (expectations : List ScriptExpectation) (rest : List (ℕ × List ℕ)) (orders : List OrderOf) (script : ScriptParts) → Begun mode bytes start
    → TakesCatalogue start names behind → TakesMax mode behind max opening → IsTaken mode names opening lines numbers expectations rest → AreOrders rest orders
    → script ≡ record { names = names; max = max; lines = lines; numbers = numbers; expectations = expectations; orders = orders } → IsScript mode bytes script
whole mode bytes start behind opening names max lines numbers expectations rest orders script so_far catalogue most found are is =
    rw is (record {
      opened = opening;
      body = found.0;
      behind_go = rest;
      opens = opened mode bytes start behind opening names max so_far catalogue most;
      parts = found.1;
      lines = found.2;
      numbers = found.3;
      orders = are;
    })

-- its steps are of opened watches
pub taken_steps : (mode : Mode) (names : List (List ℕ)) (start : Left) (lines : List Line) (numbers : List ℕ) (expectations : List ScriptExpectation)
    (rest : List (ℕ × List ℕ)) → IsTaken mode names start lines numbers expectations rest → StepsFollow 0 lines
taken_steps mode names start lines numbers expectations rest found = steps_follow mode names 0 found.0.lines lines rest found.2
