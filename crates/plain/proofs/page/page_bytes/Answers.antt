use Rattle.std.proofs.Common.{refl}
use Rattle.plain.specs.Page.{page}
use Rattle.plain.proofs.page.page_bytes.Goals as goal

pub returns : goal.returns
unfolding page
returns c = refl
