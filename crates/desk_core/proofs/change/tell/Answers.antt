use Rattle.std.proofs.Common.{◌≡◌, ◌+◌, ◌-◌, ◌/◌, ◌%◌, ◌^◌, ◌++◌, unwrap_or, refl, sym, ap, ◌∙◌, arith}
use Rattle.std.proofs.Math.Nat.{div-one}
use Rattle.health_wire.specs.declared.serving.Serving.TheVariants.{ServiceUnknown}
use Rattle.desk_core.specs.Board.{status_of_code}
use Rattle.desk_core.specs.Changes.{changed}
use Rattle.desk_core.specs.Slots.{shown_in}
use Rattle.desk_core.proofs.ChangeLemmas.{told_none, told_next, told_rest, rest_more, rest_same, slots_left}
use Rattle.desk_core.proofs.change.tell.Goals as goal

pub loop-old-init : goal.loop-old-init
loop-old-init c = record {
  range = omega arith;
  old_is = c.word-old.ensures.value ∙ sym (div-one c.args.before);
  new_is = c.word-new.ensures.value ∙ sym (div-one c.args.after);
  room = omega (arith, c.requires.room);
  few = omega (arith, c.requires.few);
  kept = refl;
  capacity = refl;
  told = told_none c.args.changes.now.items c.args.at (shown_in c.args.before) (shown_in c.args.after);
}

pub at-slot-requires : goal.at-slot-requires
at-slot-requires c =
    slots_left c.loop-old.old c.loop-old.new c.args.before c.args.after c.loop-old.number c.loop-old.invariant.range c.loop-old.invariant.old_is c.loop-old.invariant.new_is
    (omega (arith, c.word-old.ensures.value, c.word-old.ensures.range)) (omega (arith, c.word-new.ensures.value, c.word-new.ensures.range)) c.loop-old-test.true

pub loop-old-preserved : goal.loop-old-preserved
loop-old-preserved c =
    let left = slots_left c.loop-old.old c.loop-old.new c.args.before c.args.after c.loop-old.number c.loop-old.invariant.range c.loop-old.invariant.old_is c.loop-old.invariant.new_is
    (omega (arith, c.word-old.ensures.value, c.word-old.ensures.range)) (omega (arith, c.word-new.ensures.value, c.word-new.ensures.range)) c.loop-old-test.true in
    record {
      range = omega (arith, left);
      old_is = rest_more c.loop-old.old c.args.before c.loop-old.number c.loop-old.invariant.old_is;
      new_is = rest_more c.loop-old.new c.args.after c.loop-old.number c.loop-old.invariant.new_is;
      room = omega (arith, c.loop-old.invariant.room, c.tell_slot.ensures.room);
      few = omega (arith, c.loop-old.invariant.few, c.tell_slot.ensures.len);
      kept = c.tell_slot.ensures.kept ∙ c.loop-old.invariant.kept;
      capacity = c.tell_slot.ensures.capacity ∙ c.loop-old.invariant.capacity;
      told = told_next _ _ _ c.args.at c.loop-old.number _ (shown_in c.args.before) (shown_in c.args.after) _ _
          c.loop-old.invariant.told c.tell_slot.ensures.told c.at-slot.ensures
          (c.first_shown.ensures ∙ ap (λ w. unwrap_or (status_of_code (w % 4)) ServiceUnknown) c.loop-old.invariant.old_is)
          (c.first_shown-in-loop-old.ensures ∙ ap (λ w. unwrap_or (status_of_code (w % 4)) ServiceUnknown) c.loop-old.invariant.new_is);
    }

pub returns-clause-told : goal.returns-clause-told
returns-clause-told c =
    let whole : c.loop-old.number + (16 - c.loop-old.number) ≡ 16 = omega (arith, c.loop-old.invariant.range) in
    let same : c.args.before / 4 ^ c.loop-old.number ≡ c.args.after / 4 ^ c.loop-old.number = sym c.loop-old.invariant.old_is ∙ c.loop-old-test.false ∙ c.loop-old.invariant.new_is in
    c.loop-old.invariant.told
    ∙ ap (λ cs. c.args.changes.now.items ++ cs)
    (sym (told_rest c.args.at c.loop-old.number (16 - c.loop-old.number) (shown_in c.args.before) (shown_in c.args.after)
    (λ i past below. rest_same c.args.before c.args.after c.loop-old.number i same past))
    ∙ ap (λ n. changed c.args.at (shown_in c.args.before) (shown_in c.args.after) n) whole)
