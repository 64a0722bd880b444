use Rattle.std.proofs.Common.{arith, min, pos, w64, ◌≡◌, ◌≤◌, ◌*◌, ◌+ℤ◌, ◌∙◌}
use Rattle.std.proofs.lemmas.Int.{to_z_pos}
use Rattle.jiff.proofs.SpanFacts.{signed_arith}
use Rattle.jiff.specs.Words.{civil_nanos, IsCivilNanos, signed_nanos}
use Rattle.chronicle.proofs.time.time_text.Goals as goal

pub returns : goal.returns
returns c =
    let least : c.min-micros.result ≡ min c.args.micros 253402300799999999 = c.min-micros.ensures in
    let bound : c.min-micros.result ≤ 253402300799999999 = omega (arith, least) in
    let signed = to_z_pos w64 c.min-micros.result (omega (arith, bound)) in
    let after : signed_nanos c.from_micros.result ≡ pos (c.min-micros.result * 1000) = omega (arith, signed_arith, c.from_micros.ensures, signed, bound) in
    let can : IsCivilNanos (civil_nanos c.start_of_1970.result +ℤ signed_nanos c.from_micros.result) = omega (arith, signed_arith, after, bound, c.start_of_1970.ensures) in
    let at : civil_nanos c.saturating_add.result ≡ pos (min c.args.micros 253402300799999999 * 1000) = c.saturating_add.ensures.fits can ∙ omega (arith, signed_arith, after, least, c.start_of_1970.ensures) in
    (c.saturating_add.result, at, c.text_of.ensures)
