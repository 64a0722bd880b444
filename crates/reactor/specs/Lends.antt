-- What a table ends as, where a `&mut` to a connection is returned.
use Rattle.std.specs.Prelude.{ℕ, Option}
use Rattle.std.specs.Borrow.{Lends, LendsIf, Fml, RattleType, MutBor}
use Rattle.reactor.specs.Table.{TableState, with_connection}
use Rattle.reactor.specs.contracts.table.Table.{the_row}

module _ (C : RattleType) (table : MutBor (TableState C.Denot)) (key : ℕ) where
  -- once the borrow r ends, the key holds the last connection written through r
  abbrev pub lends_held : MutBor C.Denot → Fml
  lends_held r = Lends (the_row C) C table r (with_connection table.now key)

  -- the same where r is a reference, and at `None` the table stays as it is
  abbrev pub lends_connection : Option (MutBor C.Denot) → Fml
  lends_connection r = LendsIf (the_row C) C table r (with_connection table.now key) table.now
