-- Why a change was not taken.
use Rattle.std.specs.Prelude.{ℕ, List, codes, Err, None, false}
use Rattle.desk_core.specs.declared.made.Effect.{Effect}
use Rattle.desk_core.specs.declared.refusal.Refusal.{Refusal}
use Rattle.desk_core.specs.declared.refusal.Refusal.TheVariants.{BadRule, Full, NoMemory, NotListed, NotStored}

-- the text of a refusal
abbrev pub refusal_text : Refusal → List ℕ
refusal_text BadRule = codes "the rule is not lawful"
refusal_text Full = codes "the journal is full"
refusal_text NoMemory = codes "out of memory"
refusal_text NotListed = codes "the name is not in the catalogue"
refusal_text NotStored = codes "not stored"

-- what comes of a change that was refused: it shows nothing, and no place of the journal has it
abbrev pub refused_effect : Refusal → Effect
refused_effect refusal = record { result = Err refusal; shows = false; at = None }
