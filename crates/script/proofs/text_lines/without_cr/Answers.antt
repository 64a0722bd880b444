use Rattle.std.proofs.Common.{lit<, refl}
use Rattle.std.proofs.lemmas.Str.Pattern.{strip_suffix_char}
use Rattle.script.proofs.LineCuts.{strip_cr}
use Rattle.script.proofs.text_lines.without_cr.Goals as goal

pub returns : goal.returns
returns c =
    rw c.unwrap_or.ensures (strip_cr c.args.line.now c.strip_suffix.result c.args.line refl (strip_suffix_char 13 c.args.line.now c.strip_suffix.result c.strip_suffix.ensures.cases (lit< tt)))
