use Rattle.std.proofs.Common.{lit<, refl}
use Rattle.std.proofs.lemmas.Str.Pattern.{split_parts}
use Rattle.script.proofs.LineCuts.{first_line}
use Rattle.script.proofs.text_lines.first_line.Goals as goal

pub returns-clause-line : goal.returns-clause-line
returns-clause-line c = rw c.unwrap_or.ensures (first_line _ c.split_once.result _ _ c.requires refl refl (split_parts 10 c.args.text.now c.split_once.result c.split_once.ensures.cases (lit< tt)))
