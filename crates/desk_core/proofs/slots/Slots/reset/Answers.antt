use Rattle.std.proofs.Common.{set, refl, ap, ◌∙◌, arith}
use Rattle.desk_core.specs.Slots.{was_reset}
use Rattle.desk_core.proofs.SlotLemmas.{reset_all, reset_length, reset_more}
use Rattle.desk_core.proofs.slots.Slots.reset.Goals as goal

pub loop-index-preserved : goal.loop-index-preserved
loop-index-preserved g c =
    reset_more c.args.self.now.places.items c.loop-index.self.places.items _ c.loop-index.index c.index_mut.result.now
    (omega (arith, c.len-index-end.ensures)) c.loop-index.invariant
    (ap (λ x. set c.loop-index.self.places.items c.loop-index.index x) (c.reset_place.ensures ∙ ap was_reset c.index_mut.ensures.value))

pub loop-index-init : goal.loop-index-init
loop-index-init g c = refl

pub index_mut-requires : goal.index_mut-requires
index_mut-requires g c =
    let len =
    reset_length c.args.self.now.places.items c.loop-index.self.places.items c.loop-index.index (omega (arith, c.len-index-end.ensures)) c.loop-index.invariant in
    omega (arith, c.len-index-end.ensures, len)

pub returns : goal.returns
returns g c = reset_all c.args.self.now.places.items c.loop-index.self.places.items c.loop-index.index (omega (arith, c.len-index-end.ensures)) c.loop-index.invariant
