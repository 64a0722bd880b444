-- The places of a server that its loops share, and those that a loop has taken.
use Rattle.std.specs.Prelude.{ℕ, ◌≡◌}
use Rattle.reactor.specs.Table.{TableState, held_count, watch_count}
use Rattle.live_server.specs.declared.places.ServerLimits.{ServerLimits}
use Rattle.live_server.specs.declared.places.Places.{Places}
use Rattle.live_server.specs.declared.places.Taken.{Taken}

-- how many places there are
abbrev pub limits_of : Places → ServerLimits
limits_of places = places.limits

-- how many places there are, of which a loop has taken some
abbrev pub limits_behind : Taken → ServerLimits
limits_behind taken = taken.limits

-- how many of them it has taken for connections
abbrev pub connections_taken : Taken → ℕ
connections_taken taken = taken.connections

-- how many it has taken for open Watches
abbrev pub watches_taken : Taken → ℕ
watches_taken taken = taken.watches

-- the same places, with so many taken for connections and for open Watches
abbrev pub taken_with : Taken → ℕ → ℕ → Taken
taken_with taken connections watches = record taken { connections = connections; watches = watches }

-- a place is taken for each connection of a table, and for each that is admitted as a Watch, and for no others; and the table may hold
-- as many as there are places
pub record HasPlaces {C : Type 0} (taken : Taken) (table : TableState C) : Type 0 where
  pub connections : connections_taken taken ≡ held_count table
  pub watches : watches_taken taken ≡ watch_count table
  pub most : table.most ≡ (limits_behind taken).connections
  pub most_watches : table.most_watches ≡ (limits_behind taken).watches
