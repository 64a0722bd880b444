use Rattle.std.proofs.Common.{◌≡◌, reverse, rules, ◌∙◌}
use Rattle.std.specs.List.{fold}
use Rattle.health_wire.proofs.VarintLemmas.{onto, fold-onto}
use Rattle.health_wire.proofs.varint.varint_value.Goals as goal

pub returns : goal.returns
returns c =
    let read : c.fold.result ≡ fold onto 0 (reverse c.args.varint.now) = search rules in
    read ∙ fold-onto c.args.varint.now
