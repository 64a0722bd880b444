-- A table in which each Watch that is looked at has a place, where one connection changes.
use Rattle.std.proofs.Common.{◌≡◌, ℕ, Bool, true, false, true≢false, ◌||◌, not, Option, Some, None, IsSome, List, refl, sym, ap, subst, ◌∙◌, arith, rules, ⊎_elim}
use Rattle.std.proofs.lemmas.Bool.{cases_eq}
use Rattle.std.specs.Borrow.{Bor}
use Rattle.std.specs.Option.{option_map}
use Rattle.std.specs.Prelude.{is_some, option_copied}
use Rattle.reactor.specs.declared.held_connection.HeldConnection.{HeldConnection}
use Rattle.reactor.specs.Table.{Changes, TableState, IsHeld, connection_at, is_watch, place_at, with_connection, with_watch}
use Rattle.reactor.specs.declared.connection.Connection.{Connection}
use Rattle.reactor.specs.Connection.{may_look_at, state_of}
use Rattle.live_server.specs.Settled.{AreSettled, AreSettledBut, KeepsAccount, KeepsOthers, is_settled}

-- what is so or not so stays, where the second is no sooner so than before
or_not : (a b c : Bool) → (b ≡ false → c ≡ false) → (a || not b) ≡ true → (a || not c) ≡ true
or_not true b c less is = refl
or_not false true c less is = absurd (true≢false (sym is))
or_not false false c less is = ap not (less refl)

-- what is so or not so is so, where the second is not so
or_so : (a b : Bool) → b ≡ false → (a || not b) ≡ true
or_so true b none = refl
or_so false b none = ap not none

pub some_of : {A : Type 0} (held : Option A) → IsSome held → (x : A) × held ≡ Some x
some_of None is = absurd (true≢false (sym is))
some_of (Some x) is = (x, refl)

module _ {S M : Type 0} (watches : M → Bool) (waiting : M → List ℕ) where
  settled_so : {g : _} (place : Option (HeldConnection (Connection S M g))) (connection now : Connection S M g) → option_map (λ (p : HeldConnection (Connection S M g)). p.connection) place ≡ Some connection
      → (may_look_at watches waiting (state_of connection) ≡ false → may_look_at watches waiting (state_of now) ≡ false)
      → is_settled watches waiting place ≡ true → (is_watch place || not (may_look_at watches waiting (state_of now))) ≡ true
  settled_so None connection now held less is = absurd (grind (arith, held))
  settled_so (Some place) connection now held less is =
      let one : place.connection ≡ connection = grind (arith, held) in
      or_not place.is_watch (may_look_at watches waiting (state_of connection)) (may_look_at watches waiting (state_of now)) less
      (ap (λ (held : Connection S M _). place.is_watch || not (may_look_at watches waiting (state_of held))) (sym one) ∙ is)

  -- a connection that looks no sooner than before
  pub settled_still : {g : _} (old new : TableState (Connection S M g)) (key : ℕ) (connection now : Connection S M g) → connection_at old key ≡ Some connection
      → (may_look_at watches waiting (state_of connection) ≡ false → may_look_at watches waiting (state_of now) ≡ false)
      → Changes old new key (Some (record { connection = now; is_watch = is_watch (place_at old key) })) → AreSettled watches waiting old → AreSettled watches waiting new
  settled_still old new key connection now held less changes settled other = ⊎_elim
      (λ is. subst (λ (n : ℕ). is_settled watches waiting (place_at new n) ≡ true) (sym is) (subst (λ p. is_settled watches waiting p ≡ true) (sym changes.changed)
      (settled_so (place_at old key) connection now held less (settled key))))
      (λ apart. subst (λ p. is_settled watches waiting p ≡ true) (sym (changes.others other apart)) (settled other))
      (cases_eq other key)

  -- where the one key that is left out is settled too
  pub settled_all : {g : _} (key : ℕ) (table : TableState (Connection S M g)) → AreSettledBut watches waiting key table → is_settled watches waiting (place_at table key) ≡ true
      → AreSettled watches waiting table
  settled_all key table others one other = ⊎_elim
      (λ is. subst (λ (n : ℕ). is_settled watches waiting (place_at table n) ≡ true) (sym is) one)
      (λ apart. others other apart)
      (cases_eq other key)

  -- a connection that does not look
  pub settled_now : {g : _} (old new : TableState (Connection S M g)) (key : ℕ) (connection : Connection S M g)
      → Changes old (with_connection old key connection) key (Some (record { connection = connection; is_watch = is_watch (place_at old key) })) → new ≡ with_connection old key connection
      → may_look_at watches waiting (state_of connection) ≡ false → is_settled watches waiting (place_at new key) ≡ true
  settled_now old new key connection changes same none =
      subst (λ table. is_settled watches waiting (place_at table key) ≡ true) (sym same)
      (subst (λ p. is_settled watches waiting p ≡ true) (sym changes.changed) (or_so (is_watch (place_at old key)) (may_look_at watches waiting (state_of connection)) none))

  -- a connection that is admitted as a Watch
  pub settled_admitted : {g : _} (old new : TableState (Connection S M g)) (key : ℕ)
      → ((place : HeldConnection (Connection S M g)) → place_at old key ≡ Some place → Changes old (with_watch old key) key (Some (record { connection = place.connection; is_watch = true })))
      → IsHeld old key → new ≡ with_watch old key → AreSettledBut watches waiting key old → AreSettled watches waiting new
  settled_admitted old new key admits held same others =
      let one = some_of (place_at old key) held in
      let changes = admits one.0 one.1 in
      subst (AreSettled watches waiting) (sym same)
      (settled_all key (with_watch old key)
      (λ other apart. subst (λ p. is_settled watches waiting p ≡ true) (sym (changes.others other apart)) (others other apart))
      (subst (λ p. is_settled watches waiting p ≡ true) (sym changes.changed) refl))

  -- where one key changes
  pub settled_others : {g : _} (key : ℕ) (old new : TableState (Connection S M g)) → KeepsOthers key old new → AreSettledBut watches waiting key old → AreSettledBut watches waiting key new
  settled_others key old new keeps settled other apart = subst (λ p. is_settled watches waiting p ≡ true) (sym (keeps.others other apart)) (settled other apart)

pub held_so : {C : Type 0} (place : Option (HeldConnection C)) (connection : C) → option_map (λ (p : HeldConnection C). p.connection) place ≡ Some connection → IsSome place
held_so None connection held = absurd (grind (arith, held))
held_so (Some place) connection held = refl

pub held_got : {C : Type 0} (place : Option (HeldConnection C)) (got : Option (Bor C)) → option_copied got ≡ option_map (λ (p : HeldConnection C). p.connection) place → is_some got ≡ true → IsSome place
held_got None None same is = absurd (true≢false (sym is))
held_got None (Some x) same is = absurd (grind (arith, same))
held_got (Some place) got same is = refl

-- an account that nothing has changed is kept
pub account_same : {C : Type 0} (table : TableState C) → KeepsAccount table table
account_same table = search rules

-- an account that is kept twice is kept
pub account_on : {C : Type 0} {old between new : TableState C} → KeepsAccount old between → KeepsAccount between new → KeepsAccount old new
account_on first then = record { most = then.most ∙ first.most; most_watches = then.most_watches ∙ first.most_watches; taken = grind (arith); ended = grind (arith) }

-- a table whose connection under one key is another
pub others_kept : {C : Type 0} (old new : TableState C) (key : ℕ) (connection : C) (place : Option (HeldConnection C)) → Changes old (with_connection old key connection) key place
    → new ≡ with_connection old key connection → KeepsOthers key old new
others_kept old new key connection place changes same =
    rw same (record { account = record { most = changes.most; most_watches = changes.most_watches; taken = omega arith; ended = omega arith }; others = changes.others })

-- a table in which a connection is admitted as a Watch, or nothing is changed
pub account_admitted : {C : Type 0} (old new : TableState C) (key : ℕ) (admits : Bool) → (admits ≡ true → new ≡ with_watch old key) → (admits ≡ false → new ≡ old) → KeepsAccount old new
account_admitted old new key true marked refused = rw (marked refl) (record { most = refl; most_watches = refl; taken = omega arith; ended = omega arith })
account_admitted old new key false marked refused = rw (refused refl) (account_same old)
