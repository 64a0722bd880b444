-- What a rule makes of all events that a service heard: events that fit, for no other is heard. A list has the newest first.
use Rattle.std.specs.Prelude.{ℕ, ◌+◌, ◌&&◌, ◌||◌, nat_le, not, Bool, true, false, if◌then◌else◌, List, [], ◌∷◌, length, take, drop}
use Rattle.std.specs.List.{list_all, list_any, prefix_len, range_with_len}
use Rattle.probe_core.specs.declared.event.Event.{Event}
use Rattle.probe_core.specs.declared.event.Event.TheVariants.{Pass, Fail, Up, Down}
use Rattle.probe_core.specs.declared.rule.Rule.{Rule}
use Rattle.probe_core.specs.declared.rule.Rule.TheVariants.{Threshold, Manual, Depends}
use Rattle.probe_core.specs.Rule.{fits, starts_unknown, opening_memory}

-- a failed check
abbrev pub is_fail : Event → Bool
is_fail Pass = false
is_fail Fail = true
is_fail Up = false
is_fail Down = false

-- a passed check
abbrev pub is_pass : Event → Bool
is_pass Pass = true
is_pass Fail = false
is_pass Up = false
is_pass Down = false

-- a setting to up
abbrev pub is_up_setting : Event → Bool
is_up_setting Pass = false
is_up_setting Fail = false
is_up_setting Up = true
is_up_setting Down = false

-- each event is of the kind that the rule follows
abbrev pub all_fit : Rule → List Event → Bool
all_fit rule events = list_all (fits rule) events

-- the newest so many events are all of this kind
abbrev pub newest_are : (Event → Bool) → ℕ → List Event → Bool
newest_are is count events = nat_le count (length events) && list_all is (take count events)

-- so many passes in a row stand somewhere among the events
unfoldable pub has_run : ℕ → List Event → Bool
has_run rise [] = nat_le rise 0
has_run rise (newest ∷ older) = newest_are is_pass rise (newest ∷ older) || has_run rise older

-- there is a point where the newest `fall` events were all failures, and after which there were no `rise` passes in a row: behind
-- the newest k events, for some k
abbrev pub is_down : ℕ → ℕ → List Event → Bool
is_down fall rise events =
    list_any (λ k. newest_are is_fail fall (drop k events) && not (has_run rise (take k events))) (range_with_len 0 (length events + 1))

-- a threshold is down from so many failures in a row until so many passes in a row after them; a manual rule is down where the
-- newest setting is down; one that depends on others is up by itself
abbrev pub is_up : Rule → List Event → Bool
is_up (Threshold fall rise start) events = not (is_down fall rise events)
is_up Manual [] = true
is_up Manual (newest ∷ older) = is_up_setting newest
is_up (Depends mask) events = true

-- nothing was heard
abbrev pub is_empty : List Event → Bool
is_empty [] = true
is_empty (newest ∷ older) = false

-- a service that starts unknown is unknown until it hears an event
abbrev pub is_unknown : Rule → List Event → Bool
is_unknown rule events = starts_unknown rule && is_empty events

-- of a threshold that is up, how many failures stand in a row at the newest end; of one that is down, its `fall` and how many passes
-- do; 1 where the newest setting is down
abbrev pub count_after : Rule → List Event → ℕ
count_after (Threshold fall rise start) events = if is_down fall rise events then fall + prefix_len is_pass events else prefix_len is_fail events
count_after Manual [] = 0
count_after Manual (Pass ∷ older) = 0
count_after Manual (Fail ∷ older) = 0
count_after Manual (Up ∷ older) = 0
count_after Manual (Down ∷ older) = 1
count_after (Depends mask) events = 0

-- the memory of all that was heard
abbrev pub memory_after : Rule → List Event → ℕ
memory_after rule events = if is_unknown rule events then opening_memory rule else count_after rule events
