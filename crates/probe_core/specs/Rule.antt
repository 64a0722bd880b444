-- What a rule makes of one event, and of a service's memory. A threshold is HAProxy's `fall` and `rise`.
use Rattle.std.specs.Prelude.{ℕ, ◌+◌, ◌≤◌, ◌==◌, ◌&&◌, min, nat_le, nat_lt, Bool, true, false, if◌then◌else◌}
use Rattle.probe_core.specs.declared.event.Event.{Event}
use Rattle.probe_core.specs.declared.event.Event.TheVariants.{Pass, Fail, Up, Down}
use Rattle.probe_core.specs.declared.rule.Rule.{Rule}
use Rattle.probe_core.specs.declared.rule.Rule.TheVariants.{Threshold, Manual, Depends}
use Rattle.probe_core.specs.declared.start.Start.TheVariants as starts

-- a threshold follows findings, a manual rule settings, and one that depends on others no events at all
abbrev pub fits : Rule → Event → Bool
fits (Threshold fall rise start) Pass = true
fits (Threshold fall rise start) Fail = true
fits (Threshold fall rise start) Up = false
fits (Threshold fall rise start) Down = false
fits Manual Pass = false
fits Manual Fail = false
fits Manual Up = true
fits Manual Down = true
fits (Depends mask) event = false

-- the slots whose services have to be serving too, as a mask: bit i is slot i
abbrev pub relied_on : Rule → ℕ
relied_on (Threshold fall rise start) = 0
relied_on Manual = 0
relied_on (Depends mask) = mask

-- a number that may be counted to is from 1 to 1,000
abbrev pub is_count : ℕ → Bool
is_count number = nat_le 1 number && nat_le number 1000

-- what the rule counts to is in range
abbrev pub is_in_range : Rule → Bool
is_in_range (Threshold fall rise start) = is_count fall && is_count rise
is_in_range Manual = true
is_in_range (Depends mask) = true

-- what the rule counts to is at least 1
abbrev pub HasCounts : Rule → Type 0
HasCounts (Threshold fall rise start) = (1 ≤ fall) × (1 ≤ rise)
HasCounts Manual = Unit {0}
HasCounts (Depends mask) = Unit {0}

-- the service is unknown until it hears an event
abbrev pub starts_unknown : Rule → Bool
starts_unknown (Threshold fall rise starts.Up) = false
starts_unknown (Threshold fall rise starts.Unknown) = true
starts_unknown Manual = false
starts_unknown (Depends mask) = false

-- the memory of a service that heard nothing: of one that starts unknown a number that no count reaches where both numbers are at
-- least 1
abbrev pub opening_memory : Rule → ℕ
opening_memory (Threshold fall rise starts.Up) = 0
opening_memory (Threshold fall rise starts.Unknown) = fall + rise
opening_memory Manual = 0
opening_memory (Depends mask) = 0

-- the rule starts unknown, and the memory is its opening one: where both numbers are at least 1, the service heard nothing yet
abbrev pub is_unknown_at : Rule → ℕ → Bool
is_unknown_at rule memory = starts_unknown rule && memory == opening_memory rule

-- what a service with this memory has counted: while it is unknown, nothing
abbrev pub counted : Rule → ℕ → ℕ
counted rule memory = if is_unknown_at rule memory then 0 else memory

-- the count after one more event. Of a threshold: while it is up, the failures in a row; while it is down, its `fall` and the passes
-- in a row, of which `rise` take it up again. Of a manual rule: whether the last setting was down
abbrev pub count_next : Rule → Event → ℕ → ℕ
count_next (Threshold fall rise start) Pass count = if nat_lt count fall then 0 else (if nat_lt (count + 1) (fall + rise) then count + 1 else 0)
count_next (Threshold fall rise start) Fail count = min fall (count + 1)
count_next (Threshold fall rise start) Up count = count
count_next (Threshold fall rise start) Down count = count
count_next Manual Pass count = count
count_next Manual Fail count = count
count_next Manual Up count = 0
count_next Manual Down count = 1
count_next (Depends mask) event count = count

-- the memory after one more event. One that does not fit changes nothing
abbrev pub memory_next : Rule → Event → ℕ → ℕ
memory_next rule event memory = if fits rule event then count_next rule event (counted rule memory) else memory

-- whether a service with this memory is up; one that is unknown is not
abbrev pub is_up_at : Rule → ℕ → Bool
is_up_at (Threshold fall rise start) memory = nat_lt memory fall
is_up_at Manual memory = memory == 0
is_up_at (Depends mask) memory = true
