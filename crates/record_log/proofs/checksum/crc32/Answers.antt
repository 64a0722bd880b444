use Rattle.std.proofs.Common.{◌+◌, drop, sym, ◌∙◌, ap}
use Rattle.std.proofs.lemmas.List.{drop_more}
use Rattle.record_log.specs.Checksum.{crc_over}
use Rattle.record_log.proofs.checksum.crc32.Goals as goal

pub loop-byte-preserved : goal.loop-byte-preserved
loop-byte-preserved c =
    let bytes = c.args.bytes.now in
    let i = c.loop-byte.byte-index in
    ap (λ rest. crc_over rest (drop (i + 1) bytes)) c.crc_byte-rest.ensures ∙ sym (ap (λ l. crc_over c.loop-byte.rest l) (drop_more bytes i 0 c.loop-byte-test.true)) ∙ c.loop-byte.invariant
