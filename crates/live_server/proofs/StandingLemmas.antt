-- What a key holds stands, by its type.
use Rattle.std.proofs.Common.{Option, Some, None}
use Rattle.std.specs.Prelude.{IfSome}
use Rattle.reactor.specs.declared.held_connection.HeldConnection.{HeldConnection}
use Rattle.reactor.specs.declared.connection.Connection.{Connection}
use Rattle.reactor.specs.Connection.{state_of}

pub each_stands : {S M : Type 0} {g : _} (place : Option (HeldConnection (Connection S M g)))
    → IfSome place (λ (p : HeldConnection (Connection S M g)). ∥ g.stands (state_of p.connection).past (state_of p.connection).machine ∥₁)
each_stands None = tt
each_stands (Some place) = place.connection.stands
