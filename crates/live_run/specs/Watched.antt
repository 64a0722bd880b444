-- The watchdog of a run, by the seat that has set the hall up.
use Rattle.std.specs.Prelude.{ℕ, ◌≡◌, ◌↔◌, List, [], Option, None, Some, IsSome, Vec, length, vec_capacity}
use Rattle.std.specs.List.{slice_index_or}
use Rattle.std.specs.Global.{Global}
use Rattle.hall.specs.Seats.{SeatState}
use Rattle.watchdog.specs.Guard.{GuardState}
use Rattle.watchdog.specs.Watching.{HasWatched, guards_of}
use Rattle.live_run.specs.declared.watchdog_loop.WatchdogLoop.{WatchdogLoop}

-- the guards of a loop's watchdog
abbrev pub guards_in : WatchdogLoop → List GuardState
guards_in watching = guards_of watching.watchdog

-- the same where there may be none
abbrev pub guards_at : Option WatchdogLoop → List GuardState
guards_at None = []
guards_at (Some watching) = guards_in watching

-- what a watchdog, if there is one, leaves of its seat
abbrev pub IsWatchedBy : Option ℕ → Option WatchdogLoop → Option WatchdogLoop → SeatState → SeatState → Type 0
IsWatchedBy kept None watching_now old new = new ≡ old
IsWatchedBy kept (Some watching) watching_now old new = HasWatched kept (guards_in watching) old (guards_at watching_now) new

-- A watchdog, if there is one, has kept watch by the first of these seats; the others are as they were, and there is as much room for more
pub record HasKeptWatch (kept : Option ℕ) (watching : Option WatchdogLoop) (seats : Vec SeatState Global) (watching_now : Option WatchdogLoop) (seats_now : Vec SeatState Global) : Type 0 where
  pub back : IsSome watching_now ↔ IsSome watching
  pub count : length seats_now.items ≡ length seats.items
  pub room : vec_capacity seats_now ≡ vec_capacity seats
  pub first : (other : SeatState) → IsWatchedBy kept watching watching_now (slice_index_or seats.items 0 other) (slice_index_or seats_now.items 0 other)
