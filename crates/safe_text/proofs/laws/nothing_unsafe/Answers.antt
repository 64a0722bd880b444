use Rattle.std.proofs.Common.{chars}
use Rattle.safe_text.proofs.LawLemmas.{none_unsafe}
use Rattle.safe_text.proofs.laws.nothing_unsafe.Goals as goal

pub returns : goal.returns
returns c = λ text. none_unsafe (chars text)
