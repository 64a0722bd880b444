-- What the laws speak of. Each past is all that a timer met, the newest first.
use Rattle.std.specs.Prelude.{◌≡◌, ℕ, Bool, true, false, List, [], ◌∷◌, Option, Some, None, ⊤}
use Rattle.std.specs.Time.{instant_nanos}
use Rattle.watchdog.specs.declared.met.Met.{Met}
use Rattle.watchdog.specs.declared.met.Met.TheVariants.{Expected, Heard, Ended, Looked, Refused}
use Rattle.watchdog.specs.Timer.{is_overdue}

-- the reading of the newest beginning: when a report came, or when a period was set
abbrev pub begun_at : List Met → Option ℕ
begun_at [] = None
begun_at (Expected at seconds ∷ past) = Some (instant_nanos at)
begun_at (Heard at ∷ past) = Some (instant_nanos at)
begun_at (Ended ∷ past) = begun_at past
begun_at (Looked at ∷ past) = begun_at past
begun_at (Refused at ∷ past) = begun_at past

-- whether there was a refusal since the newest beginning
abbrev pub was_refused : List Met → Bool
was_refused [] = false
was_refused (Expected at seconds ∷ past) = false
was_refused (Heard at ∷ past) = false
was_refused (Ended ∷ past) = was_refused past
was_refused (Looked at ∷ past) = was_refused past
was_refused (Refused at ∷ past) = true

-- these are neither beginnings nor refusals
abbrev pub AreQuiet : List Met → Type 0
AreQuiet [] = ⊤
AreQuiet (Expected at seconds ∷ mets) = ⊥
AreQuiet (Heard at ∷ mets) = ⊥
AreQuiet (Ended ∷ mets) = AreQuiet mets
AreQuiet (Looked at ∷ mets) = AreQuiet mets
AreQuiet (Refused at ∷ mets) = ⊥

-- since the newest beginning there were only looks, and none of them told
abbrev pub IsUntold : List Met → Type 0
IsUntold [] = ⊥
IsUntold (Expected at seconds ∷ past) = ⊤
IsUntold (Heard at ∷ past) = ⊤
IsUntold (Ended ∷ past) = ⊥
IsUntold (Looked at ∷ past) = (is_overdue past (instant_nanos at) ≡ false) × IsUntold past
IsUntold (Refused at ∷ past) = ⊥
