-- Walks of a watch, step by step, and histories that a door was asked at.
use Rattle.std.proofs.Common.{◌≡◌, refl, sym, ap, subst, ◌∙◌, ℕ, Option, List, [], ◌∷◌, ◌++◌, length, flat_map, append_assoc, append-nil, arith, rules}
use Rattle.std.proofs.lemmas.Grind.{flat_map-append}
use Rattle.health_wire.specs.declared.serving.Serving.{Serving}
use Rattle.desk_core.specs.declared.entry.Entry.{Entry}
use Rattle.desk_core.specs.Changes.{changes_of}
use Rattle.desk_core.specs.Legal.{IsLegal}
use Rattle.desk_core.specs.Status.{shown}
use Rattle.desk_core.specs.Watch.{IsBehind, WatchState, answer_of, opened, stepped, told, walk, last_of}
use Rattle.web_call.specs.Answer.{Tells, told_pieces}
use Rattle.web_call.specs.Answer.Tells.{First, Step}
use Rattle.web_call.specs.Pieces.{Piece, plain}
use Rattle.web_call.specs.ResponseTexts.{message_chunk, watch_head_text}
use Rattle.web_call.specs.Walk.{AsksDoor, InTurn, KeepsUp, told_by, watch_after}
use Rattle.web_call.proofs.PieceLemmas.{frames_of, frames_of-append}

-- one more history at the end
pub walk-snoc : (watch : WatchState) (later : List (List Entry)) (next : List Entry)
    → walk watch (later ++ next ∷ []) ≡ walk watch later ++ told (answer_of (changes_of next) (watch_after watch later))
walk-snoc watch [] next = append-nil (told (answer_of (changes_of next) watch))
walk-snoc watch (entries ∷ later) next =
    ap (λ statuses. told (answer_of (changes_of entries) watch) ++ statuses) (walk-snoc (stepped (changes_of entries) watch).1 later next)
    ∙ sym (append_assoc (told (answer_of (changes_of entries) watch)) (walk (stepped (changes_of entries) watch).1 later)
    (told (answer_of (changes_of next) (watch_after (stepped (changes_of entries) watch).1 later))))

pub watch_after-snoc : (watch : WatchState) (later : List (List Entry)) (next : List Entry)
    → watch_after watch (later ++ next ∷ []) ≡ (stepped (changes_of next) (watch_after watch later)).1
watch_after-snoc watch [] next = refl
watch_after-snoc watch (entries ∷ later) next = watch_after-snoc (stepped (changes_of entries) watch).1 later next

pub KeepsUp-snoc : (kept : Option ℕ) (watch : WatchState) (later : List (List Entry)) (next : List Entry) → KeepsUp kept watch later
    → (IsBehind kept (changes_of next) (watch_after watch later) → ⊥) → KeepsUp kept watch (later ++ next ∷ [])
KeepsUp-snoc kept watch [] next keeps_up up = (up, tt)
KeepsUp-snoc kept watch (entries ∷ later) next keeps_up up =
    (keeps_up.0, KeepsUp-snoc kept (stepped (changes_of entries) watch).1 later next keeps_up.1 up)

pub last_of-append : (entries : List Entry) (asked more : List (List Entry)) → last_of entries (asked ++ more) ≡ last_of (last_of entries asked) more
last_of-append entries [] more = refl
last_of-append entries (next ∷ asked) more = last_of-append next asked more

pub InTurn-append : (follows : List Entry → List Entry → Type 0) (entries : List Entry) (asked more : List (List Entry))
    → InTurn follows entries asked → InTurn follows (last_of entries asked) more → InTurn follows entries (asked ++ more)
InTurn-append follows entries [] more turns later = later
InTurn-append follows entries (next ∷ asked) more turns later =
    (turns.0, turns.1, InTurn-append follows next asked more turns.2 later)

-- a door that was not asked, or once
pub AsksDoor-none : {D : Type 0} {seen : D → List Entry} {follows : List Entry → List Entry → Type 0} {door : D} → AsksDoor seen follows door door []
AsksDoor-none = record { in_turn = tt; last = refl; unasked = λ _. refl }

some_asked : {D : Type 0} (entries : List Entry) {door door_after : D} → entries ∷ [] ≡ [] → door_after ≡ door
some_asked entries none = absurd (cons_not_nil none)
  where
    cons_not_nil : entries ∷ [] ≡ [] → ⊥
    cons_not_nil e = search rules

pub AsksDoor-once : {D : Type 0} {seen : D → List Entry} {follows : List Entry → List Entry → Type 0} {door door_after : D}
    → follows (seen door) (seen door_after) → IsLegal (seen door_after) → AsksDoor seen follows door door_after (seen door_after ∷ [])
AsksDoor-once {seen = seen} {door_after = door_after} goes legal = record { in_turn = (goes, legal, tt); last = refl; unasked = λ none. some_asked (seen door_after) none }

-- a door that was asked, and then again
none_before : {A : Type 0} (a b : List A) → a ++ b ≡ [] → a ≡ []
none_before [] b none = refl
none_before (x ∷ a) b none = absurd (no_items none)
  where
    no_items : x ∷ (a ++ b) ≡ [] → ⊥
    no_items e = search rules

none_behind : {A : Type 0} (a b : List A) → a ++ b ≡ [] → b ≡ []
none_behind [] b none = none
none_behind (x ∷ a) b none = absurd (no_items none)
  where
    no_items : x ∷ (a ++ b) ≡ [] → ⊥
    no_items e = search rules

pub AsksDoor-again : {D : Type 0} {seen : D → List Entry} {follows : List Entry → List Entry → Type 0} {door between door_after : D}
    (asked more : List (List Entry)) → AsksDoor seen follows door between asked → AsksDoor seen follows between door_after more
    → AsksDoor seen follows door door_after (asked ++ more)
AsksDoor-again {seen = seen} {follows = follows} {door = door} {between = between} asked more before then = record {
  in_turn = InTurn-append follows (seen door) asked more before.in_turn (subst (λ entries. InTurn follows entries more) before.last then.in_turn);
  last = then.last ∙ ap (λ entries. last_of entries more) before.last ∙ sym (last_of-append (seen door) asked more);
  unasked = λ none. then.unasked (none_behind asked more none) ∙ before.unasked (none_before asked more none);
}

-- a chunk is one frame, and what a Watch told has as many as the statuses
frames_of-chunk : (status : Serving) → frames_of (message_chunk status) ≡ 1
frames_of-chunk status = omega arith

frames_of-chunks : (statuses : List Serving) → frames_of (flat_map message_chunk statuses) ≡ length statuses
frames_of-chunks [] = refl
frames_of-chunks (status ∷ later) =
    omega (arith, frames_of-append (message_chunk status) (flat_map message_chunk later), frames_of-chunk status, frames_of-chunks later)

pub frames_of-told : (statuses : List Serving) → frames_of (told_pieces statuses) ≡ length statuses
frames_of-told statuses = omega (arith, frames_of-chunks statuses)

-- what is told with one more step
told_pieces-snoc : (slot : Option ℕ) (first : List Entry) (later : List (List Entry)) (next : List Entry)
    → told_pieces (told_by slot first (later ++ next ∷ []))
    ≡ told_pieces (told_by slot first later) ++ flat_map message_chunk (told (answer_of (changes_of next) (watch_after (opened (changes_of first) slot) later)))
told_pieces-snoc slot first later next =
    ap (λ statuses. told_pieces (shown first slot ∷ statuses)) (walk-snoc (opened (changes_of first) slot) later next)
    ∙ ap (λ pieces. plain watch_head_text ∷ pieces) (flat_map-append message_chunk (told_by slot first later) _)

-- done and part are all that was told
pub tells_all : {slot : Option ℕ} {first : List Entry} {later : List (List Entry)} {done part : List Piece} → Tells slot first later done part
    → done ++ part ≡ told_pieces (told_by slot first later)
tells_all {slot} {first} First = ap (λ pieces. plain watch_head_text ∷ pieces) (sym (append-nil (message_chunk (shown first slot))))
tells_all {slot} {first} (Step earlier next) = sym (told_pieces-snoc slot first earlier next)
