-- What watchers are told.
use Rattle.std.proofs.Common.{ℕ, zero, suc, ◌≡◌, ◌+◌, ◌<◌, ◌≤◌, Option, None, Some, Bool, true, false, List, [], ◌∷◌, ◌++◌, length, take, drop, map}
use Rattle.std.proofs.Common.{refl, sym, ap, subst, ◌∙◌, arith, append_assoc, if◌then◌else◌, not, cond, nat_lt, ltb-true, ltb-false, length-drop, max}
use Rattle.std.proofs.Common.{◌-◌, unwrap_or}
use Rattle.std.proofs.lemmas.List.{append-nil, map-append, take-append-le, take_all, drop-append-le, drop-take, length-append, length-take}
use Rattle.std.proofs.lemmas.List.Elements.{filter-append}
use Rattle.std.proofs.Math.Seq.{take-add, take-append_seam}
use Rattle.std.specs.List.{position, position_or_len, filter, slice_get}
use Rattle.std.specs.Option.{option_map, option_and_then}
use Rattle.std.proofs.Math.Nat.{le-max_left, le-max_right, max-eq_right}
use Rattle.std.proofs.Math.Seq.{take-length, drop-length}
use Rattle.desk_core.specs.declared.change.Change.{Change}
use Rattle.desk_core.specs.declared.entry.Entry.{Entry}
use Rattle.desk_core.specs.Changes.{changes_of, changed, shown_at}
use Rattle.desk_core.specs.Watch.{IsOlder, WatchState, is_of, answer_of, cursor_after, stepped, story, told, opened, walk, cursor_past, GoOn, last_of}
use Rattle.health_wire.specs.declared.serving.Serving.{Serving}

-- the changes that newer entries add
pub changes_since : List Entry → List Entry → List Change
changes_since [] older = []
changes_since (entry ∷ newer) older = changes_since newer older ++ changed (length (newer ++ older)) (shown_at (newer ++ older)) (shown_at (entry ∷ (newer ++ older))) 16

-- newer entries leave the changes of the older ones, and add theirs at the end
pub grown : (newer older : List Entry) → changes_of (newer ++ older) ≡ changes_of older ++ changes_since newer older
unfolding changes_since
grown [] older = sym (append-nil (changes_of older))
grown (entry ∷ newer) older =
    let more : List Change = changed (length (newer ++ older)) (shown_at (newer ++ older)) (shown_at (entry ∷ (newer ++ older))) 16 in
    ap (λ cs. cs ++ more) (grown newer older) ∙ append_assoc (changes_of older) (changes_since newer older) more

-- the changes of a history that goes on begin with those that it had
pub front_stays : (older entries : List Entry) → IsOlder older entries → take (length (changes_of older)) (changes_of entries) ≡ changes_of older
front_stays older entries is_older =
    ap (λ es. take (length (changes_of older)) (changes_of es)) is_older.is
    ∙ ap (take (length (changes_of older))) (grown is_older.newer older)
    ∙ take-append_seam (changes_of older) (changes_since is_older.newer older)

-- the first that passes, and no others before it
first_at : {X Y : Type 0} (p : X → Bool) (f : X → Y) (xs : List X) (n : ℕ) → n ≡ position_or_len p xs → n < length xs
    → Some (map f (filter p (take (suc n) xs))) ≡ option_map (λ x. f x ∷ []) (slice_get xs n)
first_at p f [] n at below = absurd (omega (arith, below))
first_at p f (x ∷ xs) zero at below = by_test (p x) at
  where
    by_test : (b : Bool) → 0 ≡ (if not b then 1 + position_or_len p xs else 0) → Some (map f (cond b (x ∷ []) [])) ≡ Some (f x ∷ [])
    by_test true at = refl
    by_test false at = absurd (omega (arith, at))
first_at p f (x ∷ xs) (suc n) at below = by_test (p x) at (λ at. first_at p f xs n at (omega (arith, below)))
  where
    by_test : (b : Bool) → suc n ≡ (if not b then 1 + position_or_len p xs else 0)
        → (n ≡ position_or_len p xs → Some (map f (filter p (take (suc n) xs))) ≡ option_map (λ x. f x ∷ []) (slice_get xs n))
        → Some (map f (cond b (x ∷ filter p (take (suc n) xs)) (filter p (take (suc n) xs)))) ≡ option_map (λ x. f x ∷ []) (slice_get xs n)
    by_test true at later = absurd (omega (arith, at))
    by_test false at later = later (omega (arith, at))

-- where the first that passes is at the end, none passes
none_at : {X : Type 0} (p : X → Bool) (xs : List X) → length xs ≤ position_or_len p xs → filter p xs ≡ []
none_at p [] past_it = refl
none_at p (x ∷ xs) past_it = by_test (p x) past_it (λ past_it. none_at p xs past_it)
  where
    by_test : (b : Bool) → suc (length xs) ≤ (if not b then 1 + position_or_len p xs else 0) → (length xs ≤ position_or_len p xs → filter p xs ≡ []) → cond b (x ∷ filter p xs) (filter p xs) ≡ []
    by_test true past_it later = absurd (omega (arith, past_it))
    by_test false past_it later = later (omega (arith, past_it))

-- where the first that passes stands
found_at : {X : Type 0} (p : X → Bool) (xs : List X) (n : ℕ) → position p xs ≡ Some n → (n ≡ position_or_len p xs) × (n < length xs)
found_at p xs n is = by_place (nat_lt (position_or_len p xs) (length xs)) refl is
  where
    by_place : (b : Bool) → nat_lt (position_or_len p xs) (length xs) ≡ b → cond b (Some (position_or_len p xs)) None ≡ Some n → (n ≡ position_or_len p xs) × (n < length xs)
    by_place true below is =
        let P : ℕ → Type 0 = λ k. k < length xs in
        let same : position_or_len p xs ≡ n = cc in
        (sym same, subst P same (ltb-true (position_or_len p xs) (length xs) below))
    by_place false below is = cc

-- where none is found, the first that passes is at the end
not_found : {X : Type 0} (p : X → Bool) (xs : List X) → position p xs ≡ None → length xs ≤ position_or_len p xs
not_found p xs is = by_place (nat_lt (position_or_len p xs) (length xs)) refl is
  where
    by_place : (b : Bool) → nat_lt (position_or_len p xs) (length xs) ≡ b → cond b (Some (position_or_len p xs)) None ≡ None → length xs ≤ position_or_len p xs
    by_place true below is = cc
    by_place false below is = ltb-false (position_or_len p xs) (length xs) below

-- the story up to a later place is the story up to the first of the two, and the story between them
pub story_joined : (changes : List Change) (slot : Option ℕ) (start cursor after : ℕ) → start ≤ cursor → cursor ≤ after → cursor ≤ length changes
    → story changes slot start after ≡ story changes slot start cursor ++ story changes slot cursor after
story_joined changes None start cursor after first forth within = refl
story_joined changes (Some slot) start cursor after first forth within =
    let m : ℕ = after - cursor in
    let is : after ≡ cursor + m = omega (arith, forth) in
    let front : List Change = take cursor changes in
    let more : List Change = take m (drop cursor changes) in
    let long : start ≤ length front = omega (arith, first, within, length-take cursor changes) in
    let between : more ≡ drop cursor (take after changes) = sym (drop-take cursor m changes) ∙ ap (λ k. drop cursor (take k changes)) (sym is) in
    ap (λ k. map (λ change. change.status) (filter (is_of slot) (drop start (take k changes)))) is
    ∙ ap (λ cs. map (λ change. change.status) (filter (is_of slot) (drop start cs))) (take-add cursor m changes)
    ∙ ap (λ cs. map (λ change. change.status) (filter (is_of slot) cs)) (drop-append-le start front more long)
    ∙ ap (map (λ change. change.status)) (filter-append (is_of slot) (drop start front) more)
    ∙ map-append (λ change. change.status) (filter (is_of slot) (drop start front)) (filter (is_of slot) more)
    ∙ ap (λ cs. story changes (Some slot) start cursor ++ map (λ change. change.status) (filter (is_of slot) cs)) between

-- a place in the rest of a list is one in the whole list
get_dropped : {X : Type 0} (k n : ℕ) (xs : List X) → slice_get (drop k xs) n ≡ slice_get xs (k + n)
get_dropped zero n xs = ap (slice_get xs) (omega arith)
get_dropped (suc k) n [] = refl
get_dropped (suc k) n (x ∷ xs) = get_dropped k n xs ∙ by_sum (suc k + n) (omega arith)
  where
    by_sum : (sum : ℕ) → sum ≡ suc (k + n) → slice_get xs (k + n) ≡ slice_get (x ∷ xs) sum
    by_sum zero is = absurd (omega (arith, is))
    by_sum (suc sum) is = ap (slice_get xs) (omega (arith, is))

-- a list of one status, where there is an element, is what is told of it
told_of : {X : Type 0} (f : X → Serving) (o : Option X) (statuses : List Serving) → Some statuses ≡ option_map (λ x. f x ∷ []) o → statuses ≡ told (option_map f o)
told_of f None statuses is = cc
told_of f (Some x) statuses is = cc

-- where there is an element, an answer of it is not none
some_told : {X : Type 0} (f : X → Serving) (o : Option X) (statuses : List Serving) → Some statuses ≡ option_map (λ x. f x ∷ []) o → option_map f o ≡ None → ⊥
some_told f None statuses is none = cc
some_told f (Some x) statuses is none = cc

-- a step moves past no change of the slot but the one that it tells, and to the end where it tells none
pub record StepTells (changes : List Change) (slot : Option ℕ) (cursor after : ℕ) (answer : Option Serving) : Type 0 where
  pub first : story changes slot cursor after ≡ told answer
  pub none : answer ≡ None → length changes ≤ after
  pub some : (status : Serving) → answer ≡ Some status → (cursor < after) × (after ≤ length changes)
  pub forth : cursor ≤ after
  pub within : cursor ≤ length changes → after ≤ length changes

-- a step that finds no change of the slot moves to the end
finds_none : (changes : List Change) (slot cursor : ℕ) → position (is_of slot) (drop cursor changes) ≡ None
    → StepTells changes (Some slot) cursor (max cursor (length changes)) None
finds_none changes slot cursor is =
    let rest : List Change = drop cursor changes in
    record {
      first = ap (λ cs. map (λ change. change.status) (filter (is_of slot) (drop cursor cs))) (take_all (max cursor (length changes)) changes (le-max_right cursor (length changes)))
          ∙ ap (map (λ change. change.status)) (none_at (is_of slot) rest (not_found (is_of slot) rest is));
      none = λ none. le-max_right cursor (length changes);
      some = λ status some. cc;
      forth = le-max_left cursor (length changes);
      within = λ within. omega (arith, max-eq_right {n = cursor} {m = length changes} within);
    }

-- a step that finds a change of the slot tells it, and moves just past it
finds_one : (changes : List Change) (slot cursor n : ℕ) → position (is_of slot) (drop cursor changes) ≡ Some n
    → StepTells changes (Some slot) cursor (suc (cursor + n)) (option_map (λ change. change.status) (slice_get changes (cursor + n)))
finds_one changes slot cursor n is =
    let rest : List Change = drop cursor changes in
    let statuses : List Serving = map (λ change. change.status) (filter (is_of slot) (take (suc n) rest)) in
    let found = found_at (is_of slot) rest n is in
    let one = first_at (is_of slot) (λ change. change.status) rest n found.0 found.1 in
    let next : suc (cursor + n) ≡ cursor + suc n = omega arith in
    record {
      first = ap (λ k. map (λ change. change.status) (filter (is_of slot) (drop cursor (take k changes)))) next
          ∙ ap (λ cs. map (λ change. change.status) (filter (is_of slot) cs)) (drop-take cursor (suc n) changes)
          ∙ told_of (λ change. change.status) (slice_get rest n) statuses one
          ∙ ap (λ o. told (option_map (λ change. change.status) o)) (get_dropped cursor n changes);
      none = λ none. absurd (some_told (λ change. change.status) (slice_get rest n) statuses one (ap (option_map (λ change. change.status)) (get_dropped cursor n changes) ∙ none));
      some = λ status some. (omega arith, omega (arith, found.1, length-drop cursor changes));
      forth = omega arith;
      within = λ within. omega (arith, found.1, length-drop cursor changes);
    }

-- each step of a watcher does so
pub step_tells : (changes : List Change) (slot : Option ℕ) (start cursor : ℕ)
    → StepTells changes slot cursor (cursor_after changes (record { slot = slot; start = start; cursor = cursor })) (answer_of changes (record { slot = slot; start = start; cursor = cursor }))
step_tells changes None start cursor = record {
  first = refl;
  none = λ none. le-max_right cursor (length changes);
  some = λ status some. cc;
  forth = le-max_left cursor (length changes);
  within = λ within. omega (arith, max-eq_right {n = cursor} {m = length changes} within);
}
step_tells changes (Some slot) start cursor = by_place (position (is_of slot) (drop cursor changes)) refl
  where
    by_place : (o : Option ℕ) → position (is_of slot) (drop cursor changes) ≡ o
        → StepTells changes (Some slot) cursor
        (unwrap_or (option_map suc (option_map (λ n. cursor + n) o)) (max cursor (length changes)))
        (option_and_then (λ p. option_map (λ change. change.status) (slice_get changes p)) (option_map (λ n. cursor + n) o))
    by_place None is = finds_none changes slot cursor is
    by_place (Some n) is = finds_one changes slot cursor n is

-- changes that are added at the end leave the story up to a cursor as it was
pub story_stays : (front more : List Change) (slot : Option ℕ) (start cursor : ℕ) → cursor ≤ length front → story (front ++ more) slot start cursor ≡ story front slot start cursor
story_stays front more None start cursor within = refl
story_stays front more (Some slot) start cursor within =
    ap (λ cs. map (λ change. change.status) (filter (is_of slot) (drop start cs))) (take-append-le cursor front more within)

-- from a place up to the same place there is no story
story_empty : (changes : List Change) (slot : Option ℕ) → story changes slot (length changes) (length changes) ≡ []
story_empty changes None = refl
story_empty changes (Some slot) =
    ap (λ cs. map (λ change. change.status) (filter (is_of slot) (drop (length changes) cs))) (take-length changes)
    ∙ ap (λ cs. map (λ change. change.status) (filter (is_of slot) cs)) (drop-length changes)

-- the story up to where a cursor stands after its steps is the story up to where it stood, and what the steps told
walk_tells : (later : List (List Entry)) (entries : List Entry) (slot : Option ℕ) (start cursor : ℕ) → GoOn entries later → start ≤ cursor → cursor ≤ length (changes_of entries)
    → story (changes_of (last_of entries later)) slot start (cursor_past (record { slot = slot; start = start; cursor = cursor }) later)
    ≡ story (changes_of entries) slot start cursor ++ walk (record { slot = slot; start = start; cursor = cursor }) later
walk_tells [] entries slot start cursor go_on first within = sym (append-nil (story (changes_of entries) slot start cursor))
walk_tells (next ∷ later) entries slot start cursor go_on first within =
    let since : List Change = changes_since go_on.0.newer entries in
    let longer : changes_of next ≡ changes_of entries ++ since = ap changes_of go_on.0.is ∙ grown go_on.0.newer entries in
    let inside : cursor ≤ length (changes_of next) = omega (arith, within, ap length longer, length-append (changes_of entries) since) in
    let step = step_tells (changes_of next) slot start cursor in
    let watch : WatchState = (stepped (changes_of next) (record { slot = slot; start = start; cursor = cursor })).1 in
    let answers : List Serving = told (answer_of (changes_of next) (record { slot = slot; start = start; cursor = cursor })) in
    let stays : story (changes_of next) slot start cursor ≡ story (changes_of entries) slot start cursor =
    ap (λ cs. story cs slot start cursor) longer ∙ story_stays (changes_of entries) since slot start cursor within in
    let longer_story : story (changes_of next) slot start watch.cursor ≡ story (changes_of entries) slot start cursor ++ answers =
    story_joined (changes_of next) slot start cursor watch.cursor first step.forth inside
    ∙ ap (λ statuses. story (changes_of next) slot start cursor ++ statuses) step.first
    ∙ ap (λ statuses. statuses ++ answers) stays in
    walk_tells later next slot start watch.cursor go_on.1 (omega (arith, first, step.forth)) (step.within inside)
    ∙ ap (λ statuses. statuses ++ walk watch later) longer_story
    ∙ append_assoc (story (changes_of entries) slot start cursor) answers (walk watch later)

-- what the steps of a watcher tell is the story from its opening up to its cursor
pub walk_from_opening : (entries : List Entry) (later : List (List Entry)) (slot : Option ℕ) → GoOn entries later
    → walk (opened (changes_of entries) slot) later
    ≡ story (changes_of (last_of entries later)) slot (length (changes_of entries)) (cursor_past (opened (changes_of entries) slot) later)
walk_from_opening entries later slot go_on =
    let now : ℕ = length (changes_of entries) in
    sym (walk_tells later entries slot now now go_on (omega arith) (omega arith)
    ∙ ap (λ statuses. statuses ++ walk (opened (changes_of entries) slot) later) (story_empty (changes_of entries) slot))

-- the steps move a cursor forth, and not past the end
walk_range : (later : List (List Entry)) (entries : List Entry) (slot : Option ℕ) (start cursor : ℕ) → GoOn entries later → start ≤ cursor → cursor ≤ length (changes_of entries)
    → (cursor ≤ cursor_past (record { slot = slot; start = start; cursor = cursor }) later)
    × (cursor_past (record { slot = slot; start = start; cursor = cursor }) later ≤ length (changes_of (last_of entries later)))
walk_range [] entries slot start cursor go_on first within = (omega arith, within)
walk_range (next ∷ later) entries slot start cursor go_on first within =
    let since : List Change = changes_since go_on.0.newer entries in
    let longer : changes_of next ≡ changes_of entries ++ since = ap changes_of go_on.0.is ∙ grown go_on.0.newer entries in
    let inside : cursor ≤ length (changes_of next) = omega (arith, within, ap length longer, length-append (changes_of entries) since) in
    let step = step_tells (changes_of next) slot start cursor in
    let after : ℕ = cursor_after (changes_of next) (record { slot = slot; start = start; cursor = cursor }) in
    let rest = walk_range later next slot start after go_on.1 (omega (arith, first, step.forth)) (step.within inside) in
    (omega (arith, step.forth, rest.0), rest.1)

-- the cursor of a watcher is not before its opening, and not past the end
pub range_from_opening : (entries : List Entry) (later : List (List Entry)) (slot : Option ℕ) → GoOn entries later
    → (length (changes_of entries) ≤ cursor_past (opened (changes_of entries) slot) later) × (cursor_past (opened (changes_of entries) slot) later ≤ length (changes_of (last_of entries later)))
range_from_opening entries later slot go_on =
    let now : ℕ = length (changes_of entries) in walk_range later entries slot now now go_on (omega arith) (omega arith)
