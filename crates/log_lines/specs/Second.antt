-- The second in which lines are written, and what it comes to by what is met.
use Rattle.std.specs.Prelude.{ℕ, ◌+◌, ◌-◌, ◌^◌, Bool, true, ◌&&◌, Option, None, Some, min, nat_le, nat_lt, unwrap_or, if◌then◌else◌}
use Rattle.log_lines.specs.declared.second.Second.{Second}
use Rattle.log_lines.specs.declared.second.TheConstants.{MAX_LINES, SECOND_MILLIS}

-- before the first line
abbrev pub unbegun : Second
unbegun = record { begun = None; taken = 0; left = 0; over = 0 }

-- the sum of two counts, which end at 2 ^ 64 - 1
abbrev pub sum_within : ℕ → ℕ → ℕ
sum_within a b = min (a + b) (2 ^ 64 - 1)

-- by this reading the second that began at a reading is over, or none has begun
abbrev pub is_over : Option ℕ → ℕ → Bool
is_over None now = true
is_over (Some begun) now = nat_le (begun + SECOND_MILLIS) now

-- the second of this reading: the same one, or one that has no line yet
abbrev pub turned : ℕ → Second → Second
turned now second =
    if is_over second.begun now
    then record { begun = None; taken = 0; left = 0; over = sum_within second.over second.left }
    else second

abbrev pub has_room : Second → Bool
has_room second = nat_lt second.taken MAX_LINES

-- with one more line, which begins the second if it is the first
abbrev pub with_line : ℕ → Second → Second
with_line now second =
    record { begun = Some (unwrap_or second.begun now); taken = second.taken + 1; left = second.left; over = second.over }

-- after somebody asked whether a line may be written
abbrev pub after_ask : ℕ → Second → Second
after_ask now second =
    if has_room second
    then with_line now second
    else record { begun = second.begun; taken = second.taken; left = sum_within second.left 1; over = second.over }

-- how many lines of seconds that are over somebody is told to have been left out
abbrev pub told_by : Second → Option ℕ
told_by second = if nat_lt 0 second.over && has_room second then Some second.over else None

-- after somebody asked how many lines were left out
abbrev pub after_look : ℕ → Second → Second
after_look now second =
    if nat_lt 0 second.over && has_room second
    then record { begun = Some (unwrap_or second.begun now); taken = second.taken + 1; left = second.left; over = 0 }
    else second
