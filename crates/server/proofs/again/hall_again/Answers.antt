use Rattle.std.proofs.Common.{refl, sym, arith}
use Rattle.server.proofs.SeatLemmas.{new_len, first_ours, set_up_ours, set_up_by_first}
use Rattle.server.proofs.again.hall_again.Goals as goal

pub index_mut-requires : goal.index_mut-requires
index_mut-requires g c = omega (arith, new_len c.in-Ok.hall _ _ c.in-Ok.dealt.items c.in-Ok.ensures.seats, c.requires.some)

pub make_all_again-requires : goal.make_all_again-requires
make_all_again-requires g c = record {
  ours = first_ours c.in-Ok.hall _ _ c.in-Ok.dealt.items c.index_mut.result.now c.in-Ok.ensures.hall.0 c.in-Ok.ensures.seats c.requires.some c.index_mut.ensures.value;
}

pub returns-clause-seats : goal.returns-clause-seats
returns-clause-seats g c =
    set_up_by_first c.in-Ok.hall _ _ c.in-Ok.dealt.items c.index_mut.result.now c.make_all_again.new.seat _ _ _ c.in-Ok.ensures.seats c.requires.some c.index_mut.ensures.value refl
    c.in_ok-results.ensures.met

pub invariant_of-result : goal.invariant_of-result
invariant_of-result g c = (
  set_up_ours c.in-Ok.hall _ _ c.in-Ok.dealt.items c.index_mut.result.now c.make_all_again.new.seat _ _ c.in-Ok.ensures.hall.0 c.in-Ok.ensures.seats
      (first_ours c.in-Ok.hall _ _ c.in-Ok.dealt.items c.index_mut.result.now c.in-Ok.ensures.hall.0 c.in-Ok.ensures.seats c.requires.some c.index_mut.ensures.value)
      c.in_ok-results.ensures.met,
  sym c.in-Ok.ensures.hall.0,
)
