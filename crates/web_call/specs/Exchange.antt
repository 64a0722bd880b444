-- One exchange: what its door and its bell were asked, and what it read before it failed.
use Rattle.std.specs.Prelude.{ℕ, ◌≡◌, ◌≤◌, ◌+◌, ◌⊎◌, Bool, true, Option, None, Some, List, [], length, drop}
use Rattle.std.specs.Io.KnownBytes.{Consumes}
use Rattle.desk_core.specs.declared.entry.Entry.{Entry}
use Rattle.web_call.specs.declared.outcome.Outcome.{Outcome}
use Rattle.web_call.specs.declared.outcome.Outcome.TheVariants.{Http, Status, Watched, Behind, Plain}
use Rattle.web_call.specs.Answer.{IsStarvedAt}
use Rattle.web_call.specs.Request.{IsCutRequest}
use Rattle.web_call.specs.Walk.{AsksDoor}

-- a watch ends where it had all the Looks that it may take, or where its bell is over
abbrev pub HasEnded : ℕ → ℕ → Bool → Type 0
HasEnded had most is_over = (had ≡ most) ⊎ (is_over ≡ true)

-- the bell gave a Look for each step, and at most so many
pub record GivesLooks {B : Type 0} (given : B → ℕ) (looks : ℕ) (bell bell_after : B) (steps : ℕ) : Type 0 where
  pub each : given bell_after ≡ given bell + steps
  pub most : steps ≤ looks

-- what a bell was asked, by the steps that a watch has taken and how the call ends: a Look for each step of a Watch, the one that
-- found it behind too, and else it ends where it has; a call that is no Watch asks none
abbrev pub Rings : {B : Type 0} → (B → ℕ) → (B → Bool) → ℕ → B → B → ℕ → Option Outcome → Type 0
Rings given is_over looks bell bell_after steps None = GivesLooks given looks bell bell_after steps
Rings given is_over looks bell bell_after steps (Some (Watched messages)) =
    GivesLooks given looks bell bell_after steps × HasEnded steps looks (is_over bell_after)
Rings given is_over looks bell bell_after steps (Some (Behind messages)) = GivesLooks given looks bell bell_after steps
Rings given is_over looks bell bell_after steps (Some (Http http)) = bell_after ≡ bell
Rings given is_over looks bell bell_after steps (Some (Status code)) = bell_after ≡ bell
Rings given is_over looks bell bell_after steps (Some Plain) = bell_after ≡ bell

-- the door was asked at these histories, and the bell gave a Look for each of them but the first
pub record Meets {D B : Type 0} (seen : D → List Entry) (follows : List Entry → List Entry → Type 0) (given : B → ℕ) (is_over : B → Bool)
    (looks : ℕ) (door door_after : D) (bell bell_after : B) (asked : List (List Entry)) (ending : Option Outcome) : Type 0 where
  pub asks : AsksDoor seen follows door door_after asked
  pub rings : Rings given is_over looks bell bell_after (length (drop 1 asked)) ending

-- a front of a request was read, and not all of it
pub record ReadsCut (input input_now : Option (List ℕ)) : Type 0 where
  pub bytes : List ℕ
  pub is_cut : IsCutRequest bytes
  pub has_read : Consumes input input_now bytes

-- an allocation failed: the first, before anything was read and anyone was asked, or one for these
-- bytes of a request. The flag says whether plain requests are answered
pub record Starves {D : Type 0} (is_plain : Bool) (seen : D → List Entry)
    (follows : List Entry → List Entry → Type 0) (door door_after : D)
    (input input_now : Option (List ℕ)) : Type 0 where
  pub bytes : List ℕ
  pub asked : List (List Entry)
  pub at : ((bytes ≡ []) × (asked ≡ [])) ⊎ IsStarvedAt is_plain asked bytes
  pub asks : AsksDoor seen follows door door_after asked
  pub has_read : Consumes input input_now bytes
