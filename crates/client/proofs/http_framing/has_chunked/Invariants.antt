use Rattle.std.proofs.Common.{◌≡◌, drop, map}
use Rattle.std.specs.List.{list_any}
use Rattle.httparse.specs.Spans.{header_bytes}
use Rattle.client.specs.HttpFraming.{is_chunked}
use Rattle.client.proofs.http_framing.has_chunked.Given as goal

abbrev pub invariant-loop-line : goal.invariant-loop-line
invariant-loop-line l =
    list_any is_chunked (map (header_bytes l.head) (drop l.line-index l.lines))
    ≡ list_any is_chunked (map (header_bytes l.head) l.lines)
