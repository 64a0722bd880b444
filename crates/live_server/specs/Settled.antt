-- A table of connections in which each Watch that is looked at has a place.
use Rattle.std.specs.Prelude.{ℕ, ◌≡◌, ◌≢◌, ◌≤◌, Bool, true, not, ◌||◌, Option, Some, None, List}
use Rattle.reactor.specs.declared.held_connection.HeldConnection.{HeldConnection}
use Rattle.reactor.specs.Table.{TableState, place_at}
use Rattle.reactor.specs.declared.connection.Connection.{Connection}
use Rattle.reactor.specs.Connection.{may_look_at, state_of}

-- what a key holds is nothing, or is admitted as a Watch, or is no open Watch to which all is sent
abbrev pub is_settled : {S M : Type 0} {g : _} → (M → Bool) → (M → List ℕ) → Option (HeldConnection (Connection S M g)) → Bool
is_settled watches waiting None = true
is_settled watches waiting (Some place) = place.is_watch || not (may_look_at watches waiting (state_of place.connection))

-- each open Watch is admitted, but for those for whose clients bytes wait
abbrev pub AreSettled : {S M : Type 0} {g : _} → (M → Bool) → (M → List ℕ) → TableState (Connection S M g) → Type 0
AreSettled watches waiting table = (key : ℕ) → is_settled watches waiting (place_at table key) ≡ true

-- the same, but for one key
abbrev pub AreSettledBut : {S M : Type 0} {g : _} → (M → Bool) → (M → List ℕ) → ℕ → TableState (Connection S M g) → Type 0
AreSettledBut watches waiting key table = (other : ℕ) → other ≢ key → is_settled watches waiting (place_at table other) ≡ true

-- as many connections may be held as before, and as many Watches, and none of those that were taken in or have ended is forgotten
pub record KeepsAccount {C : Type 0} (old new : TableState C) : Type 0 where
  pub most : new.most ≡ old.most
  pub most_watches : new.most_watches ≡ old.most_watches
  pub taken : old.taken ≤ new.taken
  pub ended : old.ended ≤ new.ended

-- the account is kept, and so is what each key holds but one
pub record KeepsOthers {C : Type 0} (key : ℕ) (old new : TableState C) : Type 0 where
  pub account : KeepsAccount old new
  pub others : (other : ℕ) → other ≢ key → place_at new other ≡ place_at old other
