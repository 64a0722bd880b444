use Rattle.std.proofs.Common.{[], ◌∷◌, sym, ap, arith, ◌∙◌}
use Rattle.std.specs.Prelude.{Some}
use Rattle.atomic_table.specs.Table.{rest}
use Rattle.hall.specs.declared.view.GateStage.TheVariants.{Queued}
use Rattle.hall.specs.Views.{at_stage}
use Rattle.hall.specs.Steps.{Seated, number_in, seen_in}
use Rattle.hall.proofs.Turns.{turns}
use Rattle.hall.proofs.Entering.{Entered, entered}
use Rattle.hall.proofs.gate.enter.Goals as goal

pub load-requires : goal.load-requires
load-requires g c =
    let shared = c.args.shared.now in
    let place = c.loop.place in
    let drawn = c.draw-ticket.ensures.ticket in
    let now = c.loop.invariant.1 ∙ drawn.2 in (
      c.loop.invariant.0 ∙ (c.draw-ticket.ensures.place ∙ c.requires.table.1),
      omega (arith, c.requires.table.0),
      turns shared.key shared.table_id.slots place.id drawn.0 place.me (ap (λ (me : Seated). me.0.stage) now),
    )

pub exchange-slot-requires : goal.exchange-slot-requires
exchange-slot-requires g c =
    let drawn = c.draw-ticket.ensures.ticket in
    let now = c.loop.invariant.1 ∙ drawn.2 in
    let turn = (c.load.ensures.2 drawn.0 (ap (λ (me : Seated). me.0.stage) now)).0 (c.if-load-ticket.true ∙ drawn.1) in
    let holds = ap (λ (me : Seated). me.1) turn.4 in (
      c.load.ensures.0 ∙ (c.loop.invariant.0 ∙ (c.draw-ticket.ensures.place ∙ c.requires.table.1)),
      (Some turn.1, holds ∙ ap (λ slots. (0, Some turn.1) ∷ rest slots) (sym holds)),
    )

-- what the seat has when its turn has come
at_turn : (g : _) (c : goal.After-drop-iterator g)
    → Entered (number_in c.args.place.now.me) c.args.place.now.me.0.most (seen_in c.args.place.now.me) c.unwrap.result c.look.new.place.me
at_turn g c =
    let me = c.args.place.now.me in
    let drawn = c.draw-ticket.ensures.ticket in
    let now = c.loop.invariant.1 ∙ drawn.2 in
    let turn = (c.load.ensures.2 drawn.0 (ap (λ (me : Seated). me.0.stage) now)).0 (c.if-load-ticket.true ∙ drawn.1) in
    let looked = c.look.ensures.looked in
    entered (number_in me) me.0.most drawn.0 _ (seen_in me) looked.0 c.loop.place.me c.load.new.seat.me c.exchange-slot.new.seat.me c.look.new.place.me
    c.exchange-slot.result c.unwrap.result (now ∙ ap (λ (me : Seated). (at_stage me.0 (Queued drawn.0), [])) c.requires.rests) turn
    c.exchange-slot.ensures.2 c.exchange-slot.ensures.3 c.unwrap.ensures looked.1

pub returns-then-load-ticket-clause-desk : goal.returns-then-load-ticket-clause-desk
returns-then-load-ticket-clause-desk g c = (at_turn g c).has

pub returns-then-load-ticket-clause-follows : goal.returns-then-load-ticket-clause-follows
returns-then-load-ticket-clause-follows g c = (at_turn g c).follows

pub returns-then-load-ticket-clause-limit : goal.returns-then-load-ticket-clause-limit
returns-then-load-ticket-clause-limit g c = (at_turn g c).limit

pub returns-then-load-ticket-clause-room : goal.returns-then-load-ticket-clause-room
returns-then-load-ticket-clause-room g c = (at_turn g c).room
