-- What a door is asked, and what a watch tells: the histories at each asking, the newest entry of each first (Watch of
-- health-checking.md of grpc).
use Rattle.std.specs.Prelude.{◌≡◌, ℕ, Option, List, [], ◌∷◌}
use Rattle.desk_core.specs.declared.entry.Entry.{Entry}
use Rattle.desk_core.specs.Changes.{changes_of}
use Rattle.desk_core.specs.Legal.{IsLegal}
use Rattle.desk_core.specs.Status.{shown}
use Rattle.desk_core.specs.Watch.{IsBehind, WatchState, opened, stepped, walk, last_of}
use Rattle.health_wire.specs.declared.serving.Serving.{Serving}

-- each of these histories is legal and follows the one before it
abbrev pub InTurn : (List Entry → List Entry → Type 0) → List Entry → List (List Entry) → Type 0
InTurn follows entries [] = Unit {0}
InTurn follows entries (next ∷ later) = follows entries next × IsLegal next × InTurn follows next later

-- what a watch of the slot tells that is opened at the first history and stepped at the later ones
abbrev pub told_by : Option ℕ → List Entry → List (List Entry) → List Serving
told_by slot first later = shown first slot ∷ walk (opened (changes_of first) slot) later

-- a door was asked: it had these histories then, each legal and after the one before, and it was left as it was where there are none
pub record AsksDoor {D : Type 0} (seen : D → List Entry) (follows : List Entry → List Entry → Type 0) (door door_after : D)
    (asked : List (List Entry)) : Type 0 where
  pub in_turn : InTurn follows (seen door) asked
  pub last : seen door_after ≡ last_of (seen door) asked
  pub unasked : asked ≡ [] → door_after ≡ door

-- the watch after steps at these histories
abbrev pub watch_after : WatchState → List (List Entry) → WatchState
watch_after watch [] = watch
watch_after watch (entries ∷ later) = watch_after (stepped (changes_of entries) watch).1 later

-- the watch is at none of these histories behind, of whose changes so many are kept
abbrev pub KeepsUp : Option ℕ → WatchState → List (List Entry) → Type 0
KeepsUp kept watch [] = Unit {0}
KeepsUp kept watch (next ∷ later) = (IsBehind kept (changes_of next) watch → ⊥) × KeepsUp kept (stepped (changes_of next) watch).1 later
