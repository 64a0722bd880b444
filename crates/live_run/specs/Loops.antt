-- What loops leave of a hall's seats.
use Rattle.std.specs.Prelude.{ℕ, ◌≡◌, ◌<◌, ◌≤◌, ◌+◌, List, Option, length}
use Rattle.std.specs.List.{slice_index_or}
use Rattle.hall.specs.Seats.{SeatState}
use Rattle.hall.specs.Looking.{HasLooked}
use Rattle.reactor.specs.Table.{held_count}
use Rattle.control_server.specs.Seats.{MetLines}
use Rattle.control.specs.declared.rights.Rights.TheVariants.{All, Reports}
use Rattle.live_server.specs.Loop.{EventServer, held_by}
use Rattle.live_server.specs.Settled.{KeepsAccount}
use Rattle.live_run.specs.declared.seated_loop.SeatedLoop.{SeatedLoop}
use Rattle.live_run.specs.Sitting.{terms_by}
use Rattle.live_run.specs.Watched.{IsWatchedBy}
use Rattle.live_run.specs.declared.watchdog_loop.WatchdogLoop.{WatchdogLoop}

-- a loop has served until no connection was left: as many may be held as before, and none that it took in or that ended is forgotten
pub record EndedEmpty (old new : EventServer) : Type 0 where
  pub account : KeepsAccount (held_by old) (held_by new)
  pub none_left : held_count (held_by new) ≡ 0

-- a loop on its seat has served so, and its seat has at most looked
pub record LookedAndEnded {P K : Type 0} (old new : SeatedLoop P K) : Type 0 where
  pub looked : HasLooked old.seat new.seat
  pub server : EndedEmpty old.server new.server

-- each loop has served
abbrev pub AllLookedAndEnded : {P K : Type 0} → List (SeatedLoop P K) → List (SeatedLoop P K) → Type 0
AllLookedAndEnded {P} {K} old new = (place : ℕ) (other : SeatedLoop P K) → place < length old
    → LookedAndEnded (slice_index_or old place other) (slice_index_or new place other)

-- the same of their servers alone, which are as many
pub record AllEndedEmpty (old new : List EventServer) : Type 0 where
  pub count : length new ≡ length old
  pub each : (place : ℕ) (other : EventServer) → place < length old → EndedEmpty (slice_index_or old place other) (slice_index_or new place other)

-- Loops have looked by so many seats behind the first, and done nothing else by them. The first seat and those behind the loops' are
-- as they were
pub record SeatsHaveLooked (loops : ℕ) (old new : List SeatState) : Type 0 where
  pub seats : length new ≡ length old
  pub first : (other : SeatState) → slice_index_or new 0 other ≡ slice_index_or old 0 other
  pub looked : (place : ℕ) (other : SeatState) → 1 ≤ place → place ≤ loops
      → HasLooked (slice_index_or old place other) (slice_index_or new place other)
  pub spare : (place : ℕ) (other : SeatState) → loops < place → slice_index_or new place other ≡ slice_index_or old place other

-- Loops have looked by so many seats behind the first. By each of the seats behind these, so many, lines of the control place's sessions
-- were met, one after the other, and by each of those behind them lines of the report place's, over a catalogue of these names and a
-- history of at most so many entries, of which so many are kept. By the first seat a watchdog has kept watch, if there is one
pub record SeatsAfterRun (kept : Option ℕ) (watching watching_now : Option WatchdogLoop) (most : ℕ) (names : List (List ℕ)) (loops controlled : ℕ) (old new : List SeatState) : Type 0 where
  pub seats : length new ≡ length old
  pub first : (other : SeatState) → IsWatchedBy kept watching watching_now (slice_index_or old 0 other) (slice_index_or new 0 other)
  pub looked : (place : ℕ) (other : SeatState) → 1 ≤ place → place ≤ loops
      → HasLooked (slice_index_or old place other) (slice_index_or new place other)
  pub sessions : (place : ℕ) (other : SeatState) → loops < place → place ≤ loops + controlled → place < length old
      → MetLines kept (terms_by All most) names (slice_index_or old place other) (slice_index_or new place other)
  pub reports : (place : ℕ) (other : SeatState) → loops + controlled < place → place < length old
      → MetLines kept (terms_by Reports most) names (slice_index_or old place other) (slice_index_or new place other)
