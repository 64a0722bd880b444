-- Why a connection was not taken in.
use Rattle.std.specs.Prelude.{ℕ, List, codes}
use Rattle.reactor.specs.declared.refused.Refused.{Refused}
use Rattle.reactor.specs.declared.refused.Refused.TheVariants.{Full, NoMemory}

-- the text of a refusal
abbrev pub refused_text : Refused → List ℕ
refused_text Full = codes "the table is full"
refused_text NoMemory = codes "out of memory"
