-- What a timer has met of entries, one more at a time.
use Rattle.std.proofs.Common.{◌≡◌, ℕ, ◌+◌, ◌<◌, List, [], ◌∷◌, ◌++◌, length, take, get_or, refl, ap, ◌∙◌}
use Rattle.std.proofs.lemmas.List.{take_more}
use Rattle.std.specs.declared.time.Instant.{Instant}
use Rattle.desk_core.specs.declared.entry.Entry.{Entry}
use Rattle.watchdog.specs.declared.met.Met.{Met}
use Rattle.watchdog.specs.Guard.{met_by, met_in}

pub met_then : (seat slot : ℕ) (now : Instant) (first second : List Entry) (met : List Met)
    → met_in seat slot now (first ++ second) met ≡ met_in seat slot now second (met_in seat slot now first met)
met_then seat slot now [] second met = refl
met_then seat slot now (entry ∷ entries) second met = met_then seat slot now entries second (met_by seat slot now entry met)

-- behind one entry more
pub met_more : (seat slot : ℕ) (now : Instant) (entries : List Entry) (index : ℕ) (other : Entry) (met : List Met) → index < length entries
    → met_in seat slot now (take (index + 1) entries) met ≡ met_by seat slot now (get_or entries index other) (met_in seat slot now (take index entries) met)
met_more seat slot now entries index other met below =
    ap (λ l. met_in seat slot now l met) (take_more entries index other below)
    ∙ met_then seat slot now (take index entries) (get_or entries index other ∷ []) met
