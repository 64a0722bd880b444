-- What a Watch over a door to a hall tells.
use Rattle.std.proofs.Common.{◌≡◌, ℕ, List, [], ◌∷◌, length, ap}
use Rattle.std.specs.Prelude.{Option}
use Rattle.health_wire.specs.declared.serving.Serving.{Serving}
use Rattle.desk_core.specs.declared.entry.Entry.{Entry}
use Rattle.desk_core.specs.Changes.{changes_of}
use Rattle.desk_core.specs.Status.{shown}
use Rattle.desk_core.specs.Watch.{IsOlder, GoOn, opened, story, last_of, cursor_past}
use Rattle.desk_core.proofs.WatchLemmas.{walk_from_opening}
use Rattle.web_call.specs.Walk.{InTurn, told_by}

-- histories that are seen one after the other go on
go_on : (entries : List Entry) (later : List (List Entry)) → InTurn IsOlder entries later → GoOn entries later
go_on entries [] turn = tt
go_on entries (next ∷ later) turn = (turn.0, go_on next later turn.2)

pub tells_story : (slot : Option ℕ) (first : List Entry) (later : List (List Entry)) → InTurn IsOlder first later
    → told_by slot first later ≡ shown first slot ∷ story (changes_of (last_of first later)) slot (length (changes_of first)) (cursor_past (opened (changes_of first) slot) later)
tells_story slot first later turn = ap (λ (told : List Serving). shown first slot ∷ told) (walk_from_opening first later slot (go_on first later turn))
