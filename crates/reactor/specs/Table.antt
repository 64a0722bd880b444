-- A table of open connections, and the account of those that were ever taken in.
use Rattle.std.specs.Prelude.{◌≡◌, ◌≢◌, ℕ, ◌+◌, ◌-◌, ◌^◌, ◌<◌, ◌≤◌, ◌⊎◌, min, Bool, true, false, List, length, Option, Some, None, is_some, IsSome, count_by, slice_index_or, slice_set, refl}
use Rattle.std.specs.Option.{option_map}
use Rattle.std.specs.Coded.{Coded, code_by, coded×, coded_ℕ, coded_bool, coded_list, coded_option}
use Rattle.reactor.specs.declared.held_connection.HeldConnection.{HeldConnection}

-- what each key from 0 on holds; how many connections were ever taken in, and how many of them have ended; how many may be held, and
-- how many of these as open Watches
pub record TableState (C : Type 0) : Type 0 where
  pub places : List (Option (HeldConnection C))
  pub taken : ℕ
  pub ended : ℕ
  pub most : ℕ
  pub most_watches : ℕ

abbrev pub place_code : {C : Type 0} → Coded C → Coded (HeldConnection C)
place_code {C} code =
    code_by (C × Bool) (coded× code coded_bool)
    (λ place. (place.connection, place.is_watch)) (λ p. record { connection = p.0; is_watch = p.1 }) (λ _. refl)

abbrev pub table_code : {C : Type 0} → Coded C → Coded (TableState C)
table_code {C} code =
    code_by (List (Option (HeldConnection C)) × (ℕ × (ℕ × (ℕ × ℕ)))) (coded× (coded_list (coded_option (place_code code))) (coded× coded_ℕ (coded× coded_ℕ (coded× coded_ℕ coded_ℕ))))
    (λ t. (t.places, (t.taken, (t.ended, (t.most, t.most_watches)))))
    (λ p. record { places = p.0; taken = p.1.0; ended = p.1.1.0; most = p.1.1.1.0; most_watches = p.1.1.1.1 }) (λ _. refl)

module _ {C : Type 0} where
  -- what a key holds: a connection, and whether it is admitted as a Watch
  abbrev pub place_at : TableState C → ℕ → Option (HeldConnection C)
  place_at table key = slice_index_or table.places key None

  -- the connection that a key holds
  abbrev pub connection_at : TableState C → ℕ → Option C
  connection_at table key = option_map (λ place. place.connection) (place_at table key)

  -- the key holds a connection
  abbrev pub IsHeld : TableState C → ℕ → Type 0
  IsHeld table key = IsSome (place_at table key)

  -- there is a connection, and it is admitted as a Watch
  abbrev pub is_watch : Option (HeldConnection C) → Bool
  is_watch None = false
  is_watch (Some place) = place.is_watch

  -- a connection that was just taken in
  abbrev pub newcomer : C → HeldConnection C
  newcomer connection = record { connection = connection; is_watch = false }

  -- how many connections are held
  abbrev pub held_count : TableState C → ℕ
  held_count table = count_by is_some table.places

  -- how many of them are admitted as Watches
  abbrev pub watch_count : TableState C → ℕ
  watch_count table = count_by is_watch table.places

  -- what was taken in is what ended and what is held, and no more is held than may be
  pub record IsAccounted (table : TableState C) : Type 0 where
    pub whole : table.taken ≡ table.ended + held_count table
    pub few : held_count table ≤ table.most
    pub few_watches : watch_count table ≤ table.most_watches

  -- the new table has this at the key, every other key keeps what it had, and as many may be held as before
  pub record Changes (old new : TableState C) (key : ℕ) (place : Option (HeldConnection C)) : Type 0 where
    pub changed : place_at new key ≡ place
    pub others : (other : ℕ) → other ≢ key → place_at new other ≡ place_at old other
    pub most : new.most ≡ old.most
    pub most_watches : new.most_watches ≡ old.most_watches

  -- the table with another connection in the place of the one that the key holds
  abbrev pub with_connection : TableState C → ℕ → C → TableState C
  with_connection table key connection =
      record table { places = slice_set table.places key (Some (record { connection = connection; is_watch = is_watch (place_at table key) })) }

  -- the table with the connection that the key holds admitted as a Watch
  abbrev pub with_watch : TableState C → ℕ → TableState C
  with_watch table key =
      record table { places = slice_set table.places key (option_map (λ place. record { connection = place.connection; is_watch = true }) (place_at table key)) }

  -- the key holds a connection that is a Watch already, or there is a Watch's place left for it
  pub record MayBeAdmitted (table : TableState C) (key : ℕ) : Type 0 where
    pub held : IsHeld table key
    pub room : (is_watch (place_at table key) ≡ true) ⊎ (watch_count table < table.most_watches)

  -- what a table's parts keep: the Watches and the ended are counted, and the account holds
  pub record IsTable (places : List (Option (HeldConnection C))) (watches counted : ℕ) (taken ended : List (Unit {0})) (most most_watches : ℕ) : Type 0 where
    pub watches_are : watches ≡ count_by is_watch places
    pub counted_are : counted ≡ min (length ended) (2 ^ 64 - 1)
    pub whole : length taken ≡ length ended + count_by is_some places
    pub few : count_by is_some places ≤ most
    pub few_watches : watches ≤ most_watches
