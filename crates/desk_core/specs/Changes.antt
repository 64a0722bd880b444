-- What watchers are shown: each change of a service's status (Watch of health-checking.md of grpc).
use Rattle.std.specs.Prelude.{ℕ, zero, suc, ◌<◌, ◌==◌, Bool, if◌then◌else◌, Some, List, [], ◌∷◌, ◌++◌, length}
use Rattle.health_wire.specs.declared.serving.Serving.{Serving}
use Rattle.health_wire.specs.Serving.{serving_number}
use Rattle.desk_core.specs.declared.change.Change.{Change}
use Rattle.desk_core.specs.declared.entry.Entry.{Entry}
use Rattle.desk_core.specs.Status.{shown}

-- the two are the same status
abbrev pub is_same : Serving → Serving → Bool
is_same a b = serving_number a == serving_number b

-- of the slots 0 to n - 1, in their order, those that are shown otherwise after the entry at this place than before it
unfoldable pub changed : ℕ → (ℕ → Serving) → (ℕ → Serving) → ℕ → List Change
changed at before after zero = []
changed at before after (suc n) =
    changed at before after n
    ++ (if is_same (before n) (after n) then [] else record { at = at; slot = n; status = after n } ∷ [])

-- what each slot is shown as
abbrev pub shown_at : List Entry → ℕ → Serving
shown_at entries slot = shown entries (Some slot)

-- the changes of a history in all slots, by the place of their entry, the oldest first, and then by slot
abbrev pub changes_of : List Entry → List Change
changes_of [] = []
changes_of (entry ∷ older) =
    changes_of older ++ changed (length older) (shown_at older) (shown_at (entry ∷ older)) 16

-- the newest entry of a history changed what is shown of a service
abbrev pub Shows : List Entry → Type 0
Shows [] = ⊥
Shows (entry ∷ older) = length (changes_of older) < length (changes_of (entry ∷ older))
