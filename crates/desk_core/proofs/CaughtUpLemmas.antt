-- What a watcher knows that has been told all changes since its opening.
use Rattle.std.proofs.Common.{ℕ, ◌≡◌, ◌<◌, Bool, true, false, cond, Option, None, Some, unwrap_or, List, [], ◌∷◌, ◌++◌, length, reverse, drop, find}
use Rattle.std.proofs.Common.{filter, map, option_map, refl, sym, ap, ◌∙◌, append_assoc}
use Rattle.std.proofs.lemmas.List.{reverse-append}
use Rattle.std.proofs.lemmas.List.Folds.{find-append}
use Rattle.std.proofs.Math.Seq.{take-length, drop-append_seam}
use Rattle.std.specs.List.{last_or}
use Rattle.std.specs.Option.{option_or}
use Rattle.health_wire.specs.declared.serving.Serving.TheVariants.{ServiceUnknown}
use Rattle.desk_core.specs.declared.change.Change.{Change}
use Rattle.desk_core.specs.declared.entry.Entry.{Entry}
use Rattle.desk_core.specs.Status.{shown}
use Rattle.desk_core.specs.Changes.{changes_of}
use Rattle.desk_core.specs.Watch.{IsOlder, GoOn, last_of, is_of, last_told, story, opened, walk, cursor_past}
use Rattle.desk_core.proofs.ToldLemmas.{last_is_shown}
use Rattle.desk_core.proofs.WatchLemmas.{changes_since, grown, walk_from_opening}

-- the last of what is made of the elements that pass is made of the first that passes from the end
last_passing : {X Y : Type 0} (p : X → Bool) (f : X → Y) (xs : List X) (o : Option Y)
    → last_or o (map f (filter p xs)) ≡ option_or (option_map f (find p (reverse xs))) o
last_passing p f [] o = refl
last_passing {X = X} {Y = Y} p f (x ∷ xs) o =
    by_test (p x) (last_passing p f xs)
    ∙ ap (λ found. option_or (option_map f found) o) (sym (find-append p (reverse xs) (x ∷ [])))
    ∙ ap (λ ys. option_or (option_map f (find p ys)) o) (sym (reverse-append (x ∷ []) xs))
  where
    past_it : (found : Option X) → option_or (option_map f found) (Some (f x)) ≡ option_or (option_map f (option_or found (Some x))) o
    past_it None = refl
    past_it (Some y) = refl

    without_it : (found : Option X) → option_or (option_map f found) o ≡ option_or (option_map f (option_or found None)) o
    without_it None = refl
    without_it (Some y) = refl

    by_test : (b : Bool) → ((o : Option Y) → last_or o (map f (filter p xs)) ≡ option_or (option_map f (find p (reverse xs))) o)
        → last_or o (map f (cond b (x ∷ filter p xs) (filter p xs))) ≡ option_or (option_map f (option_or (find p (reverse xs)) (cond b (Some x) None))) o
    by_test true later = later (Some (f x)) ∙ past_it (find p (reverse xs))
    by_test false later = later o ∙ without_it (find p (reverse xs))

-- what was told last of the changes so far, and then of the later ones, is what is told last of all
pub told_last : (front since : List Change) (slot : ℕ)
    → last_or (Some (last_told front slot)) (map (λ change. change.status) (filter (is_of slot) since)) ≡ Some (last_told (front ++ since) slot)
told_last front since slot =
    last_passing (is_of slot) (λ change. change.status) since (Some (last_told front slot))
    ∙ by_found (find (is_of slot) (reverse since)) (find (is_of slot) (reverse front))
    ∙ ap (λ found. Some (unwrap_or (option_map (λ change. change.status) found) ServiceUnknown)) (sym (find-append (is_of slot) (reverse since) (reverse front)))
    ∙ ap (λ cs. Some (unwrap_or (option_map (λ change. change.status) (find (is_of slot) cs)) ServiceUnknown)) (sym (reverse-append front since))
  where
    by_found : (later before : Option Change)
        → option_or (option_map (λ change. change.status) later) (Some (unwrap_or (option_map (λ change. change.status) before) ServiceUnknown))
        ≡ Some (unwrap_or (option_map (λ change. change.status) (option_or later before)) ServiceUnknown)
    by_found None before = refl
    by_found (Some change) before = refl

-- the story of the later changes is what each of the slot's among them says
pub story_since : (front since : List Change) (slot : ℕ)
    → story (front ++ since) (Some slot) (length front) (length (front ++ since)) ≡ map (λ change. change.status) (filter (is_of slot) since)
story_since front since slot =
    ap (λ cs. map (λ change. change.status) (filter (is_of slot) (drop (length front) cs))) (take-length (front ++ since))
    ∙ ap (λ cs. map (λ change. change.status) (filter (is_of slot) cs)) (drop-append_seam front since)

-- whoever was shown a slot at a history, and was told its story since then, knows what is shown of it now
knows_now : (entries now : List Entry) (slot : ℕ) → IsOlder entries now → slot < 16
    → last_or None (shown entries (Some slot) ∷ story (changes_of now) (Some slot) (length (changes_of entries)) (length (changes_of now))) ≡ Some (shown now (Some slot))
knows_now entries now slot is_older few =
    let front : List Change = changes_of entries in
    let since : List Change = changes_since is_older.newer entries in
    let longer : changes_of now ≡ front ++ since = ap changes_of is_older.is ∙ grown is_older.newer entries in
    ap (λ cs. last_or (Some (shown entries (Some slot))) (story cs (Some slot) (length front) (length cs))) longer
    ∙ ap (last_or (Some (shown entries (Some slot)))) (story_since front since slot)
    ∙ ap (λ status. last_or (Some status) (map (λ change. change.status) (filter (is_of slot) since))) (sym (last_is_shown entries slot few))
    ∙ told_last front since slot
    ∙ ap (λ cs. Some (last_told cs slot)) (sym longer)
    ∙ ap Some (last_is_shown now slot few)

-- the last of the histories goes on from the first
pub goes_on : (later : List (List Entry)) (entries : List Entry) → GoOn entries later → IsOlder entries (last_of entries later)
goes_on [] entries go_on = record { newer = []; is = refl }
goes_on (next ∷ later) entries go_on =
    let first = go_on.0 in
    let rest = goes_on later next go_on.1 in
    record {
      newer = rest.newer ++ first.newer;
      is = rest.is ∙ ap (λ es. rest.newer ++ es) first.is ∙ sym (append_assoc rest.newer first.newer entries);
    }

-- whoever was told all changes of a slot since a history knows what is shown at the last one
pub story_ends_right : (entries : List Entry) (later : List (List Entry)) (slot : ℕ) → GoOn entries later → slot < 16
    → last_or None (shown entries (Some slot) ∷ story (changes_of (last_of entries later)) (Some slot) (length (changes_of entries)) (length (changes_of (last_of entries later))))
    ≡ Some (shown (last_of entries later) (Some slot))
story_ends_right entries later slot go_on few = knows_now entries (last_of entries later) slot (goes_on later entries go_on) few

-- a watcher whose cursor has come to the end of the changes knows what is shown at the last history
pub walk_ends_right : (entries : List Entry) (later : List (List Entry)) (slot : ℕ) → GoOn entries later → slot < 16
    → cursor_past (opened (changes_of entries) (Some slot)) later ≡ length (changes_of (last_of entries later))
    → last_or None (shown entries (Some slot) ∷ walk (opened (changes_of entries) (Some slot)) later) ≡ Some (shown (last_of entries later) (Some slot))
walk_ends_right entries later slot go_on few at_end =
    let now : List Change = changes_of (last_of entries later) in
    ap (last_or (Some (shown entries (Some slot)))) (walk_from_opening entries later (Some slot) go_on)
    ∙ ap (λ cursor. last_or (Some (shown entries (Some slot))) (story now (Some slot) (length (changes_of entries)) cursor)) at_end
    ∙ story_ends_right entries later slot go_on few
