use Rattle.std.proofs.Common.{ap, sym, ◌∙◌, arith}
use Rattle.hall.specs.Seats.{new_seats}
use Rattle.script.specs.Change.{line_changes}
use Rattle.server.proofs.SeatLemmas.{new_len, first_ours, set_up_ours, set_up_by_first}
use Rattle.server.proofs.setup.hall_of.Goals as goal

pub index_mut-requires : goal.index_mut-requires
index_mut-requires g c = omega (arith, new_len c.in-Ok.hall _ _ c.in-Ok.dealt.items c.in-Ok.ensures.seats, c.requires.some)

pub run_setup-requires : goal.run_setup-requires
run_setup-requires g c = record {
  seat = first_ours c.in-Ok.hall _ _ c.in-Ok.dealt.items c.index_mut.result.now c.in-Ok.ensures.hall.0 c.in-Ok.ensures.seats c.requires.some c.index_mut.ensures.value;
}

pub returns-clause-seats : goal.returns-clause-seats
returns-clause-seats g c =
    set_up_by_first c.in-Ok.hall _ _ c.in-Ok.dealt.items c.index_mut.result.now c.run_setup.new.seat _ _ _
    (c.in-Ok.ensures.seats ∙ ap (λ most. new_seats c.in-Ok.hall.table most c.args.seats) c.into_parts-catalogue.ensures.max) c.requires.some
    c.index_mut.ensures.value
    (ap (line_changes c.in-Ok.hall.names) (c.deref.ensures.value ∙ c.into_parts-catalogue.ensures.lines)
    ∙ ap (λ names. line_changes names c.args.script.lines) (c.in-Ok.ensures.hall.2 ∙ c.into_parts-catalogue.ensures.catalogue))
    c.in_ok-results.ensures.met

pub invariant_of-result : goal.invariant_of-result
invariant_of-result g c = (
  set_up_ours c.in-Ok.hall _ _ c.in-Ok.dealt.items c.index_mut.result.now c.run_setup.new.seat _ _ c.in-Ok.ensures.hall.0 c.in-Ok.ensures.seats
      (first_ours c.in-Ok.hall _ _ c.in-Ok.dealt.items c.index_mut.result.now c.in-Ok.ensures.hall.0 c.in-Ok.ensures.seats c.requires.some c.index_mut.ensures.value)
      c.in_ok-results.ensures.met,
  sym c.in-Ok.ensures.hall.0,
)
