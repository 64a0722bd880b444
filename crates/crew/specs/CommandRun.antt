-- Lists of orders, and seats that make the changes that they ask for.
use Rattle.std.specs.Prelude.{◌≡◌, ℕ, ◌<◌, ◌≤◌, List, [], map, length, vec_len, vec_capacity}
use Rattle.std.specs.List.{slice_index_or}
use Rattle.desk_core.specs.Order.{ordered}
use Rattle.hall.specs.Seats.{HallState, IsOf}
use Rattle.crew.specs.declared.command_run.Commands.{Commands}
use Rattle.crew.specs.declared.command_run.CommandRun.{CommandRun}
use Rattle.hall.specs.CarriedOut.{HasCarriedOut}

-- no order of the list has a result yet, and there is room for one of each
pub record IsEquipped (commands : Commands) : Type 0 where
  pub none : commands.results.items ≡ []
  pub room : vec_len commands.orders ≤ vec_capacity commands.results

-- a run that may begin: its seat is the hall's, and its list has room for all results
pub record IsReady {P : Type 0} (hall : HallState) (run : CommandRun P) : Type 0 where
  pub seat : IsOf hall run.seat
  pub commands : IsEquipped run.commands

-- a run is over: its seat was asked for what the orders ask for over a catalogue of these names, with these results
abbrev pub HasRun : {P : Type 0} → List (List ℕ) → CommandRun P → CommandRun P → Type 0
HasRun names old new = HasCarriedOut old.seat new.seat (map (ordered names) old.commands.orders.items) new.commands.results.items

-- all of them are over
abbrev pub HaveRun : {P : Type 0} → List (List ℕ) → List (CommandRun P) → List (CommandRun P) → Type 0
HaveRun {P} names old new = (place : ℕ) (other : CommandRun P) → place < length old
    → HasRun names (slice_index_or old place other) (slice_index_or new place other)
