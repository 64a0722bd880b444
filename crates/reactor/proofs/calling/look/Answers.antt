use Rattle.std.proofs.Common.{[], ◌∷◌, refl, ap}
use Rattle.web_call.specs.Answer.{source_of}
use Rattle.reactor.proofs.CallingLemmas.{has_looked}
use Rattle.reactor.proofs.calling.look.Goals as goal

pub returns-then-is_empty-clause-served : goal.returns-then-is_empty-clause-served
returns-then-is_empty-clause-served g c =
    let looked = c.look.ensures in (
      g.D.Door.seen c.look.new.door ∷ [],
      has_looked (source_of (g.D.Door.names c.look.new.door) g.D.Door.kept g.D.Door.is_plain) (ap (λ names. source_of names g.D.Door.kept g.D.Door.is_plain) looked.names) c.requires.0 looked.asks looked.looked looked.names
          looked.stays looked.answered looked.ended refl,
    )

pub returns-else-is_watching-clause-served : goal.returns-else-is_watching-clause-served
returns-else-is_watching-clause-served g c =
    let looked = c.look.ensures in (
      g.D.Door.seen c.look.new.door ∷ [],
      has_looked (source_of (g.D.Door.names c.look.new.door) g.D.Door.kept g.D.Door.is_plain) (ap (λ names. source_of names g.D.Door.kept g.D.Door.is_plain) looked.names) c.requires.0 looked.asks looked.looked looked.names
          looked.stays looked.answered looked.ended refl,
    )
