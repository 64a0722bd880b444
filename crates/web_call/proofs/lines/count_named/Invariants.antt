use Rattle.std.proofs.Common.{◌≡◌, ◌+◌, ◌≤◌, drop, map}
use Rattle.httparse.specs.Spans.{header_bytes}
use Rattle.web_call.specs.Lines.{count_named}
use Rattle.web_call.proofs.lines.count_named.Given as goal

abbrev pub invariant-loop-line : goal.invariant-loop-line
invariant-loop-line l =
    (l.count ≤ l.line-index)
    × (l.count + count_named l.name (map (header_bytes l.head) (drop l.line-index l.lines))
    ≡ count_named l.name (map (header_bytes l.head) l.lines))
