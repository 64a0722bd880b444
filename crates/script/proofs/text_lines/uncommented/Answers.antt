use Rattle.std.proofs.Common.{lit<}
use Rattle.std.proofs.lemmas.Str.Pattern.{starts_char}
use Rattle.script.proofs.LineCuts.{no_hash}
use Rattle.script.proofs.text_lines.uncommented.Goals as goal

pub returns : goal.returns
returns c =
    let plain = no_hash c.args.line.now c.starts_with.result (starts_char 35 c.args.line.now c.starts_with.result c.starts_with.ensures.cases (lit< tt) (lit< tt)) c.if-starts_with.false in
    rw plain c.without_cr.ensures
