-- What a watchdog does, round after round.
use Rattle.std.specs.Prelude.{ℕ, ◌≡◌, ◌+◌, ◌*◌, ◌≤◌, ◌<◌, ◌⊎◌, Bool, true, false, Option, None, IsSomeAnd, List, ◌∷◌, length, take, drop}
use Rattle.std.specs.List.{All, slice_index_or, slice_set}
use Rattle.std.specs.Time.{instant_nanos}
use Rattle.std.specs.declared.time.Instant.{Instant}
use Rattle.desk_core.specs.declared.call.Call.TheVariants.{Observe}
use Rattle.desk_core.specs.declared.call.Finding.TheVariants.{Fail}
use Rattle.desk_core.specs.declared.entry.Entry.{Entry}
use Rattle.desk_core.specs.Past.{past}
use Rattle.hall.specs.Looking.{HasLooked}
use Rattle.hall.specs.Seats.{SeatState}
use Rattle.watchdog.specs.declared.met.Met.{Met}
use Rattle.watchdog.specs.declared.met.Met.TheVariants.{Looked, Refused}
use Rattle.watchdog.specs.Laws.{begun_at}
use Rattle.watchdog.specs.Timer.{is_overdue, period_of}
use Rattle.tail.specs.Tail.{forgotten}
use Rattle.watchdog.specs.declared.watchdog.Watchdog.{Watchdog}
use Rattle.watchdog.specs.declared.wish.Wish.{Wish}
use Rattle.watchdog.specs.Guard.{GuardState, followed, looked, passed, refused, skipped, wishing}
use Rattle.watchdog.specs.Falling.{HasFallen}

-- A step of a guard and of the watchdog's seat, in a round that reads the clock so. Entries that it follows are the next of the journal that the
-- seat has seen. It passes by all of it where nothing is expected, and skips all of it where one of its next entries is forgotten. Fails are
-- made where its service is overdue at the reading, and nowhere else
pub data IsStep (kept : Option ℕ) (now : Instant) (guard : GuardState) (seat : SeatState) : GuardState → SeatState → Type 0 where
  Stays : IsStep kept now guard seat guard seat
  Follows : (entries : List Entry) → entries ≡ take (length entries) (drop guard.place (past seat.seen))
      → IsStep kept now guard seat (followed seat.number now entries guard) seat
  PassesBy : guard.wish ≡ None → period_of guard.met ≡ None → IsStep kept now guard seat (passed (length seat.seen) guard) seat
  Skips : guard.place < forgotten kept (length seat.seen) → IsStep kept now guard seat (skipped now (length seat.seen) guard) seat
  Waits : is_overdue guard.met (instant_nanos now) ≡ false → IsStep kept now guard seat (looked now guard) seat
  Expires : (seat_now : SeatState) (made : Bool) → is_overdue guard.met (instant_nanos now) ≡ true
      → HasFallen kept guard.slot guard.place seat seat_now made false → IsStep kept now guard seat (looked now guard) seat_now
  IsRefused : (seat_now : SeatState) (made : Bool) → is_overdue guard.met (instant_nanos now) ≡ true
      → HasFallen kept guard.slot guard.place seat seat_now made true → IsStep kept now guard seat (refused now (looked now guard)) seat_now

-- guards have taken such steps, each in its place; the newest is the last
pub data HaveStepped (kept : Option ℕ) (now : Instant) : List GuardState → SeatState → List GuardState → SeatState → Type 0 where
  NoStep : (guards : List GuardState) (seat : SeatState) → HaveStepped kept now guards seat guards seat
  OneStep : (guards between : List GuardState) (seat before seat_now : SeatState) (place : ℕ) (guard : GuardState) (other : GuardState)
      → HaveStepped kept now guards seat between before → place < length between
      → IsStep kept now (slice_index_or between place other) before guard seat_now
      → HaveStepped kept now guards seat (slice_set between place guard) seat_now

-- something is expected anew of guards, one after the other
pub data HaveWished : List GuardState → List GuardState → Type 0 where
  NoWish : (guards : List GuardState) → HaveWished guards guards
  OneWish : (guards between : List GuardState) (place : ℕ) (wish : Wish) (other : GuardState) → HaveWished guards between → place < length between
      → HaveWished guards (slice_set between place (wishing wish (slice_index_or between place other)))

-- a guard has looked at this reading, and nothing else but that its fail was refused has come since
abbrev pub WasLooked : Instant → GuardState → Type 0
WasLooked now guard = (older : List Met) × ((guard.met ≡ Looked now ∷ older) ⊎ (guard.met ≡ Refused now ∷ Looked now ∷ older))

-- A round at a reading of the clock: what is expected anew is taken over, the seat has seen more, and steps are taken, at whose end each guard
-- has looked
pub record HasHadRound (kept : Option ℕ) (now : Instant) (guards : List GuardState) (seat : SeatState) (guards_now : List GuardState) (seat_now : SeatState) : Type 0 where
  pub wishing : List GuardState
  pub between : SeatState
  pub wished : HaveWished guards wishing
  pub saw : HasLooked seat between
  pub steps : HaveStepped kept now wishing between guards_now seat_now
  pub all : All (WasLooked now) guards_now

-- a round that had no clock to read: it took over what is expected anew, and the seat has seen more
pub record HasMissedRound (guards : List GuardState) (seat : SeatState) (guards_now : List GuardState) (seat_now : SeatState) : Type 0 where
  pub wished : HaveWished guards guards_now
  pub saw : HasLooked seat seat_now

-- a watchdog has had rounds; the newest is the last
pub data HasWatched (kept : Option ℕ) : List GuardState → SeatState → List GuardState → SeatState → Type 0 where
  NoRound : (guards : List GuardState) (seat : SeatState) → HasWatched kept guards seat guards seat
  OneRound : (guards between guards_now : List GuardState) (seat before seat_now : SeatState) (now : Instant)
      → HasWatched kept guards seat between before → HasHadRound kept now between before guards_now seat_now
      → HasWatched kept guards seat guards_now seat_now
  Misses : (guards between guards_now : List GuardState) (seat before seat_now : SeatState)
      → HasWatched kept guards seat between before → HasMissedRound between before guards_now seat_now
      → HasWatched kept guards seat guards_now seat_now

-- the guards of a watchdog
abbrev pub guards_of : Watchdog → List GuardState
guards_of watchdog = watchdog.guards.items

-- the entry is a fail of a service
abbrev pub IsFail : Entry → Type 0
IsFail entry = (slot : ℕ) × (entry.call ≡ Observe slot Fail)

-- the period has passed at this reading since the newest beginning of what a timer has met
abbrev pub IsPast : List Met → ℕ → Type 0
IsPast met now = IsSomeAnd (begun_at met) (λ at. IsSomeAnd (period_of met) (λ seconds. at + seconds * 1000000000 ≤ now))
