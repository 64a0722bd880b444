-- Who asked for the entry of a record.
use Rattle.std.specs.Prelude.{Option, Some, None, if◌then◌else◌, nat_eq}
use Rattle.record_ring.specs.declared.record.Record.{Record}
use Rattle.chronicle.specs.declared.who.Who.{Who}
use Rattle.chronicle.specs.declared.who.Who.TheVariants.{Setup, Session, Expiry}

-- by the sort of the record: 0 is setup, 1 the session that it names, and 2 an expiry
abbrev pub who_of : Record → Option Who
who_of kept =
    if nat_eq kept.sort 0 then Some Setup else
    if nat_eq kept.sort 1 then Some (Session kept.session) else
    if nat_eq kept.sort 2 then Some Expiry else None
