-- What holds of a hall between any two steps of its threads. Word 0 is the board, word 1 how many tickets were drawn, word 2
-- the ticket that is served, both modulo 2^64, and slot 0 is the desk's. Histories have their newest entry first.
use Rattle.std.specs.Prelude.{◌≡◌, ℕ, zero, suc, ◌+◌, ◌%◌, ◌^◌, ◌<◌, ◌≤◌, ◌⊎◌, true, List, [], ◌∷◌, length, Option}
use Rattle.std.specs.List.{sum_by}
use mathlib.Core.Option.{some, none, Option as Place}
use lib.ListN.{get_elem?}
use Rattle.atomic_table.specs.Table.{State as Table}
use Rattle.desk_core.specs.declared.entry.Entry.{Entry}
use Rattle.desk_core.specs.Board.{board_of}
use Rattle.desk_core.specs.Desk.{State}
use Rattle.desk_core.specs.Legal.{IsLegal}
use Rattle.desk_core.specs.Past.{past}
use Rattle.desk_core.specs.Seats.{calls_by}
use Rattle.desk_core.specs.Watch.{IsOlder}
use Rattle.hall.specs.declared.view.Held.{Held}
use Rattle.hall.specs.declared.view.GateStage.{GateStage}
use Rattle.hall.specs.declared.view.GateStage.TheVariants.{Idle, Queued, Served}
use Rattle.hall.specs.declared.view.View.{View}
use Rattle.hall.specs.declared.view.HallLimits.{HallLimits}
use Rattle.hall.specs.Views.{waits, serves, made_by}

-- A hall between two steps: its history, and how long that may get; how many tickets were drawn, and which is served; whether
-- the desk is out (1) or at home (0); how many seats were dealt out, and by which view; which view has each seat's number, and
-- which holds each ticket
pub record Moment : Type 0 where
  pub history : List Entry
  pub most : ℕ
  pub drawn : ℕ
  pub served : ℕ
  pub out : ℕ
  pub dealt : ℕ
  pub dealer : ℕ
  pub owner : ℕ → ℕ
  pub holder : ℕ → ℕ

-- the desk is at home with the history, or out
abbrev pub IsHome : ℕ → List Entry → ℕ → List (Place (Option State)) → Type 0
IsHome zero history most homes =
    (desk : State) × (homes ≡ some (Option.Some desk) ∷ []) × (past desk.journal ≡ history) × (desk.max_entries ≡ most)
IsHome (suc n) history most homes = homes ≡ none ∷ []

-- what a seat has seen is the history up to some point, after which the history has no entries of the seat; its number was
-- dealt out, and is this view's
pub record IsHeld (history : List Entry) (numbers : ℕ) (owner : ℕ → ℕ) (view : ℕ) (seat : Held) : Type 0 where
  pub older : IsOlder seat.seen history
  pub own : calls_by history seat.number ≡ calls_by seat.seen seat.number
  pub dealt : seat.number < numbers
  pub owned : owner seat.number ≡ view

-- each of the seats is held so
abbrev pub AreHeld : List Entry → ℕ → (ℕ → ℕ) → ℕ → List Held → Type 0
AreHeld history dealt owner view [] = Unit {0}
AreHeld history dealt owner view (seat ∷ seats) = IsHeld history dealt owner view seat × AreHeld history dealt owner view seats

-- a ticket is this view's alone; the tickets out are those from the one served up to those drawn; the desk is out just with the
-- view whose ticket is served, and has the whole history
abbrev pub IsStage : Moment → ℕ → GateStage → Type 0
IsStage moment view Idle = Unit {0}
IsStage moment view (Queued ticket) =
    (moment.served ≤ ticket) × (ticket < moment.drawn) × (moment.holder ticket ≡ view) × (ticket ≡ moment.served → moment.out ≡ 0)
IsStage moment view (Served ticket history) =
    (ticket ≡ moment.served) × (ticket < moment.drawn) × (moment.holder ticket ≡ view) × (moment.out ≡ 1) × (history ≡ moment.history)

-- what a view knows is so: its seats and its note saw histories up to some point; only one that has a seat stands at the gate;
-- and one view deals out the seats
pub record IsView (moment : Moment) (j : ℕ) (view : View) : Type 0 where
  pub seats : AreHeld moment.history moment.dealt moment.owner j view.seats
  pub told : IsOlder view.told moment.history
  pub stage : IsStage moment j view.stage
  pub seated : waits view.stage ≤ length view.seats
  pub most : 0 < length view.seats → view.most ≡ moment.most
  pub deals : view.deals ≡ true → (view.dealt ≡ moment.dealt) × (view.most ≡ moment.most) × (j ≡ moment.dealer)

-- one of the seats has this number
abbrev pub HasNumber : ℕ → List Held → Type 0
HasNumber number [] = ⊥
HasNumber number (seat ∷ seats) = (seat.number ≡ number) ⊎ HasNumber number seats

-- some view has the seat of this number
pub record IsPlaced (views : List View) (number : ℕ) : Type 0 where
  pub place : ℕ
  pub view : View
  pub at : get_elem? views place ≡ some view
  pub has : HasNumber number view.seats

-- The rule of a hall. An entry is by a number that was dealt out (`fresh`), some view has the seat of that number (`placed`),
-- and that seat has seen the entry (`IsHeld`). Of the sums: there are as many seats as numbers were dealt out, as many views
-- wait as tickets are out, the desk is out just where a view has it, and the seats made all entries
pub record IsGated (key : HallLimits) (table : Table (Option State) View) : Type 0 where
  pub moment : Moment
  pub bounds : (key.most < 2 ^ 32) × (key.seats < 2 ^ 16)
  pub most : moment.most ≡ key.most
  pub words : table.words ≡ board_of moment.history ∷ moment.drawn % 2 ^ 64 ∷ moment.served % 2 ^ 64 ∷ []
  pub home : IsHome moment.out moment.history moment.most table.homes
  pub legal : IsLegal moment.history
  pub room : length moment.history ≤ moment.most
  pub few : moment.dealt ≤ key.seats
  pub fresh : (number : ℕ) → moment.dealt ≤ number → calls_by moment.history number ≡ []
  pub each : (j : ℕ) (view : View) → get_elem? table.views j ≡ some view → IsView moment j view
  pub placed : (number : ℕ) → number < moment.dealt → IsPlaced table.views number
  pub numbers : sum_by (λ view. length view.seats) table.views ≡ moment.dealt
  pub tickets : moment.served + sum_by (λ view. waits view.stage) table.views ≡ moment.drawn
  pub serving : sum_by (λ view. serves view.stage) table.views ≡ moment.out
  pub counted : sum_by (λ view. made_by view.seats) table.views ≡ length moment.history
