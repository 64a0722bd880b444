use Rattle.std.proofs.Common.{[], ◌∷◌, length, ◌∙◌, ap, arith, length-append}
use Rattle.record_log.specs.Log.{blocks}
use Rattle.record_log.proofs.rewriting.write_text_anew.Goals as goal

pub overflow_sub-result : goal.overflow_sub-result
overflow_sub-result g c = omega (arith, ap length c.requires.whole.1, length-append (blocks c.requires.whole.0) (0 ∷ []))

pub returns-in-Ok-put_in_place : goal.returns-in-Ok-put_in_place
returns-in-Ok-put_in_place g c = λ entries is. record {
  file = record { gate = 0; rest = []; shut = omega arith; whole = c.written.ensures.bytes ∙ is };
  end = omega (arith, ap length is, length-append (blocks entries) (0 ∷ []));
  durable = c.written.ensures.durable;
}
