-- What the words of a line say. A line of any other form is bad.
use Rattle.std.specs.Prelude.{ℕ, ◌≡◌, ◌^◌, ◌<◌, ◌↔◌, true, List, [], ◌∷◌, codes, All, Any, IsSome, Some}
use Rattle.probe_core.specs.declared.rule.Rule.{Rule}
use Rattle.probe_core.specs.declared.rule.Rule.TheVariants.{Threshold, Manual, Depends}
use Rattle.probe_core.specs.declared.start.Start.TheVariants as starts
use Rattle.desk_core.specs.declared.call.Finding.TheVariants.{Pass, Fail}
use Rattle.desk_core.specs.declared.call.Setting.TheVariants.{Up, Down}
use Rattle.desk_core.specs.declared.order.Order.{Order as OrderOf}
use Rattle.desk_core.specs.declared.order.Order.TheVariants.{Observe, Set, Shutdown, Resume}
use Rattle.desk_core.specs.Catalogue.{slot_of}
use Rattle.desk_core.specs.Status.{has_slot}
use Rattle.script.specs.declared.line.Line.{Line}
use Rattle.script.specs.declared.line.Line.TheVariants.{Register, Retire, Order, Check, Open, Step, Board}
use Rattle.script.specs.TextLines.{AreWords}
use Rattle.script.specs.Word.{name_of, IsNumber}

-- the slots of these words' names, as the bits of a mask
pub record IsMaskOf (names words : List (List ℕ)) (mask : ℕ) : Type 0 where
  pub listed : All (λ word. IsSome (slot_of names (name_of word))) words
  pub bits : (slot : ℕ) → (has_slot mask slot ≡ true) ↔ Any (λ word. slot_of names (name_of word) ≡ Some slot) words
  pub fits : mask < 2 ^ 16

-- the words behind `threshold` give one: its fall, then its rise or else 1, then whether it is unknown at first or else up
pub data IsThreshold : List (List ℕ) → Rule → Type 0 where
  FallAlone : (word : List ℕ) (fall : ℕ) → IsNumber word fall → IsThreshold (word ∷ []) (Threshold fall 1 starts.Up)
  FallAndRise : (word other : List ℕ) (fall rise : ℕ) → IsNumber word fall → IsNumber other rise → IsThreshold (word ∷ other ∷ []) (Threshold fall rise starts.Up)
  UnknownFirst : (word other : List ℕ) (fall rise : ℕ) → IsNumber word fall → IsNumber other rise
      → IsThreshold (word ∷ other ∷ codes "unknown" ∷ []) (Threshold fall rise starts.Unknown)

-- the words give a rule, where the catalogue has these names
pub data IsRule (names : List (List ℕ)) : List (List ℕ) → Rule → Type 0 where
  ThresholdRule : (words : List (List ℕ)) (rule : Rule) → IsThreshold words rule → IsRule names (codes "threshold" ∷ words) rule
  ManualRule : IsRule names (codes "manual" ∷ []) Manual
  DependsRule : (words : List (List ℕ)) (mask : ℕ) → IsMaskOf names words mask → IsRule names (codes "depends" ∷ words) (Depends mask)

-- the words give an order, which a server takes while it runs
pub data IsOrder : List (List ℕ) → OrderOf → Type 0 where
  PassOrder : (name : List ℕ) → IsOrder (codes "pass" ∷ name ∷ []) (Observe (name_of name) Pass)
  FailOrder : (name : List ℕ) → IsOrder (codes "fail" ∷ name ∷ []) (Observe (name_of name) Fail)
  UpOrder : (name : List ℕ) → IsOrder (codes "up" ∷ name ∷ []) (Set (name_of name) Up)
  DownOrder : (name : List ℕ) → IsOrder (codes "down" ∷ name ∷ []) (Set (name_of name) Down)
  ShutdownOrder : IsOrder (codes "shutdown" ∷ []) Shutdown
  ResumeOrder : IsOrder (codes "resume" ∷ []) Resume

-- the words give a line, where the catalogue has these names
pub data IsLine (names : List (List ℕ)) : List (List ℕ) → Line → Type 0 where
  RegisterLine : (name : List ℕ) (words : List (List ℕ)) (rule : Rule) → IsRule names words rule
      → IsLine names (codes "register" ∷ name ∷ words) (Register (name_of name) rule)
  RetireLine : (name : List ℕ) → IsLine names (codes "retire" ∷ name ∷ []) (Retire (name_of name))
  OrderLine : (words : List (List ℕ)) (order : OrderOf) → IsOrder words order → IsLine names words (Order order)
  CheckLine : (name : List ℕ) → IsLine names (codes "check" ∷ name ∷ []) (Check (name_of name))
  OpenLine : (name : List ℕ) → IsLine names (codes "open" ∷ name ∷ []) (Open (name_of name))
  StepLine : (word : List ℕ) (watch : ℕ) → IsNumber word watch → IsLine names (codes "step" ∷ word ∷ []) (Step watch)
  BoardLine : IsLine names (codes "board" ∷ []) Board

-- the text of a line gives an order
pub record IsOrderText (text : List ℕ) (order : OrderOf) : Type 0 where
  pub words : List (List ℕ)
  pub are : AreWords text words
  pub is : IsOrder words order

-- the text of a line gives a line
pub record IsLineText (names : List (List ℕ)) (text : List ℕ) (line : Line) : Type 0 where
  pub words : List (List ℕ)
  pub are : AreWords text words
  pub is : IsLine names words line
