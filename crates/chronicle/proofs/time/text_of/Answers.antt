use Rattle.std.proofs.Common.{arith}
use Rattle.chronicle.proofs.AsciiLemmas.{byte, digits, nothing}
use Rattle.chronicle.proofs.time.text_of.Goals as goal

pub invariant_of-result : goal.invariant_of-result
invariant_of-result c =
    let z = byte 90 _ (omega arith) nothing in
    let f4 = digits _ _ _ c.digits-f4.ensures.tens_ascii c.digits-f4.ensures.ones_ascii z in
    let f2 = digits _ _ _ c.digits-f2.ensures.tens_ascii c.digits-f2.ensures.ones_ascii f4 in
    let f0 = digits _ _ _ c.digits-f0.ensures.tens_ascii c.digits-f0.ensures.ones_ascii f2 in
    let point = byte 46 _ (omega arith) f0 in
    let s0 = digits _ _ _ c.digits-s0.ensures.tens_ascii c.digits-s0.ensures.ones_ascii point in
    let before_s = byte 58 _ (omega arith) s0 in
    let n0 = digits _ _ _ c.digits-n0.ensures.tens_ascii c.digits-n0.ensures.ones_ascii before_s in
    let before_n = byte 58 _ (omega arith) n0 in
    let h0 = digits _ _ _ c.digits-h0.ensures.tens_ascii c.digits-h0.ensures.ones_ascii before_n in
    let before_h = byte 84 _ (omega arith) h0 in
    let d0 = digits _ _ _ c.digits-d0.ensures.tens_ascii c.digits-d0.ensures.ones_ascii before_h in
    let before_d = byte 45 _ (omega arith) d0 in
    let m0 = digits _ _ _ c.digits-m0.ensures.tens_ascii c.digits-m0.ensures.ones_ascii before_d in
    let before_m = byte 45 _ (omega arith) m0 in
    let y2 = digits _ _ _ c.digits-y2.ensures.tens_ascii c.digits-y2.ensures.ones_ascii before_m in
    (digits _ _ _ c.digits-y0.ensures.tens_ascii c.digits-y0.ensures.ones_ascii y2).is_ascii
