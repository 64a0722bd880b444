-- The guard of one service: what its timer has met of the journal, by the readings of the clock at which it saw it.
use Rattle.std.specs.Prelude.{ℕ, ◌+◌, ◌-◌, nat_le, List, [], ◌∷◌, Option, Some, None, length, take, drop, if◌then◌else◌}
use Rattle.std.specs.declared.time.Instant.{Instant}
use Rattle.desk_core.specs.declared.entry.Entry.{Entry}
use Rattle.desk_core.specs.Silence.{begins, ends}
use Rattle.watchdog.specs.declared.met.Met.{Met}
use Rattle.watchdog.specs.declared.met.Met.TheVariants.{Expected, Heard, Ended, Looked, Refused}
use Rattle.watchdog.specs.declared.wish.Wish.{Wish}

-- a guard: the slot of its service, what its timer met, the newest first, what is expected from a place of the journal on that it has not come
-- to, and the place up to which it has seen the journal
pub record GuardState : Type 0 where
  pub slot : ℕ
  pub met : List Met
  pub wish : Option Wish
  pub place : ℕ

-- a guard of which nothing is expected, and that has seen nothing
abbrev pub fresh : ℕ → GuardState
fresh slot = record { slot = slot; met = []; wish = None; place = 0 }

-- what a timer has met behind an entry that a seat sees at this reading
abbrev pub met_by : ℕ → ℕ → Instant → Entry → List Met → List Met
met_by seat slot now entry met = if begins seat slot entry then Heard now ∷ met else (if ends slot entry then Ended ∷ met else met)

-- the same of entries, the oldest first
abbrev pub met_in : ℕ → ℕ → Instant → List Entry → List Met → List Met
met_in seat slot now [] met = met
met_in seat slot now (entry ∷ entries) met = met_in seat slot now entries (met_by seat slot now entry met)

-- the same where something is expected from a place on that so many of the entries come to
abbrev pub met_around : ℕ → ℕ → Instant → List Entry → ℕ → ℕ → List Met → List Met
met_around seat slot now entries before seconds met =
    met_in seat slot now (drop before entries) (Expected now seconds ∷ met_in seat slot now (take before entries) met)

-- a guard behind more entries of the journal, where this is expected
abbrev pub followed_by : ℕ → Instant → List Entry → GuardState → Option Wish → GuardState
followed_by seat now entries guard None = record {
  slot = guard.slot;
  met = met_in seat guard.slot now entries guard.met;
  wish = None;
  place = guard.place + length entries;
}
followed_by seat now entries guard (Some wish) = record {
  slot = guard.slot;
  met =
      if nat_le wish.behind (guard.place + length entries) then met_around seat guard.slot now entries (wish.behind - guard.place) wish.seconds guard.met
      else met_in seat guard.slot now entries guard.met;
  wish = if nat_le wish.behind (guard.place + length entries) then None else Some wish;
  place = guard.place + length entries;
}

abbrev pub followed : ℕ → Instant → List Entry → GuardState → GuardState
followed seat now entries guard = followed_by seat now entries guard guard.wish

-- a guard of which something is expected anew from a place on: what was expected before has ended, and it sees again what stands behind that place
abbrev pub wishing : Wish → GuardState → GuardState
wishing wish guard = record {
  slot = guard.slot;
  met = Ended ∷ guard.met;
  wish = Some wish;
  place = if nat_le wish.behind guard.place then wish.behind else guard.place;
}

-- a guard of a service of which nothing is expected, which has nothing to see
abbrev pub passed : ℕ → GuardState → GuardState
passed place guard = record { slot = guard.slot; met = guard.met; wish = guard.wish; place = place }

-- the same where entries that it has not seen are forgotten: the service may have been heard there
abbrev pub skipped : Instant → ℕ → GuardState → GuardState
skipped now place guard = record { slot = guard.slot; met = Heard now ∷ guard.met; wish = guard.wish; place = place }

-- a guard that looked whether its service is to be failed
abbrev pub looked : Instant → GuardState → GuardState
looked now guard = record { slot = guard.slot; met = Looked now ∷ guard.met; wish = guard.wish; place = guard.place }

-- and was then refused
abbrev pub refused : Instant → GuardState → GuardState
refused now guard = record { slot = guard.slot; met = Refused now ∷ guard.met; wish = guard.wish; place = guard.place }
