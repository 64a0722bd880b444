use Rattle.std.proofs.Common.{refl, []}
use Rattle.web_call.proofs.call.Call.new.Goals as goal

pub returns-clause-begun : goal.returns-clause-begun
returns-clause-begun c = λ source. record {
  silent = record { none_sent = refl; goes_out = c.new-2.ensures.goes [] c.none.ensures };
  none_asked = refl;
  has_read = c.in_ok-new.ensures.read;
}
