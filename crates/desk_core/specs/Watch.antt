-- Watchers: after its first status (`shown`) each is told its service's later status changes, each once and in order.
use Rattle.std.specs.Prelude.{◌≡◌, ◌≢◌, ℕ, suc, ◌+◌, ◌<◌, ◌==◌, Bool, Option, None, Some, List, [], ◌∷◌, ◌++◌, length, map, take, drop, reverse, slice_get, max, unwrap_or, IsSome}
use Rattle.std.specs.List.{position, filter, find}
use Rattle.std.specs.Option.{option_map, option_and_then}
use Rattle.health_wire.specs.declared.serving.Serving.{Serving}
use Rattle.health_wire.specs.declared.serving.Serving.TheVariants.{ServiceUnknown}
use Rattle.desk_core.specs.declared.change.Change.{Change}
use Rattle.desk_core.specs.declared.entry.Entry.{Entry}
use Rattle.desk_core.specs.Changes.{changes_of}

-- a watcher: its slot, or none; how many changes there were when it was opened; and how many it is past, where its next
-- step looks on
pub record WatchState : Type 0 where
  pub slot : Option ℕ
  pub start : ℕ
  pub cursor : ℕ

-- the change is the slot's
abbrev pub is_of : ℕ → Change → Bool
is_of slot change = change.slot == slot

-- the place of the slot's first change that is not before the cursor; a watcher of no slot has none
abbrev pub next_change : List Change → Option ℕ → ℕ → Option ℕ
next_change changes None cursor = None
next_change changes (Some slot) cursor = option_map (λ n. cursor + n) (position (is_of slot) (drop cursor changes))

-- a watcher that is opened now
abbrev pub opened : List Change → Option ℕ → WatchState
opened changes slot = record { slot = slot; start = length changes; cursor = length changes }

-- what a step answers: the status of that change
abbrev pub answer_of : List Change → WatchState → Option Serving
answer_of changes watch =
    option_and_then (λ p. option_map (λ change. change.status) (slice_get changes p)) (next_change changes watch.slot watch.cursor)

-- the cursor after a step: past that change, or at the end where there is none; it never goes back
abbrev pub cursor_after : List Change → WatchState → ℕ
cursor_after changes watch =
    unwrap_or (option_map suc (next_change changes watch.slot watch.cursor)) (max watch.cursor (length changes))

-- the watcher of a service is before the oldest change that is kept, so that its next one may be forgotten. Where all are kept
-- none is; and a watcher of no slot has no next change
abbrev pub IsBehind : Option ℕ → List Change → WatchState → Type 0
IsBehind None changes watch = ⊥
IsBehind (Some kept) changes watch = IsSome watch.slot × (watch.cursor + kept < length changes)

-- a step of a watcher
abbrev pub stepped : List Change → WatchState → Option Serving × WatchState
stepped changes watch =
    (answer_of changes watch, record { slot = watch.slot; start = watch.start; cursor = cursor_after changes watch })

-- the story of a slot: the status of each of its changes from one place up to before another; no slot has none
abbrev pub story : List Change → Option ℕ → ℕ → ℕ → List Serving
story changes None start cursor = []
story changes (Some slot) start cursor =
    map (λ change. change.status) (filter (is_of slot) (drop start (take cursor changes)))

-- the status of the slot's last change, or SERVICE_UNKNOWN where it has none
abbrev pub last_told : List Change → ℕ → Serving
last_told changes slot =
    unwrap_or (option_map (λ change. change.status) (find (is_of slot) (reverse changes))) ServiceUnknown

-- each of the statuses is another than the one before it, and the first is another than this one
abbrev pub AreChanges : Serving → List Serving → Type 0
AreChanges before [] = Unit {0}
AreChanges before (status ∷ later) = (status ≢ before) × AreChanges status later

-- an answer as the statuses that are told
abbrev pub told : Option Serving → List Serving
told None = []
told (Some status) = status ∷ []

-- what the steps at these histories answer, in turn, where they answer a status
abbrev pub walk : WatchState → List (List Entry) → List Serving
walk watch [] = []
walk watch (entries ∷ later) =
    told (answer_of (changes_of entries) watch) ++ walk (stepped (changes_of entries) watch).1 later

-- the cursor after these steps
abbrev pub cursor_past : WatchState → List (List Entry) → ℕ
cursor_past watch [] = watch.cursor
cursor_past watch (entries ∷ later) = cursor_past (stepped (changes_of entries) watch).1 later

-- the entries are the older ones, with newer ones in front or with none
pub record IsOlder (older entries : List Entry) : Type 0 where
  pub newer : List Entry
  pub is : entries ≡ newer ++ older

-- each history goes on where the one before it ends
abbrev pub GoOn : List Entry → List (List Entry) → Type 0
GoOn entries [] = Unit {0}
GoOn entries (next ∷ later) = IsOlder entries next × GoOn next later

-- the last of these histories, or the given one where there are no more
abbrev pub last_of : List Entry → List (List Entry) → List Entry
last_of entries [] = entries
last_of entries (next ∷ later) = last_of next later
