-- When something may be told once a minute.
use Rattle.std.specs.Prelude.{ℕ, ◌+◌, Bool, true, Option, None, Some, nat_le, if◌then◌else◌}
use Rattle.log_lines.specs.declared.minutely.TheConstants.{MINUTE_MILLIS}

-- it was not told yet, or a minute before this reading or more
abbrev pub is_minute_over : Option ℕ → ℕ → Bool
is_minute_over None now = true
is_minute_over (Some last) now = nat_le (last + MINUTE_MILLIS) now

-- when it was told last, once somebody asked at this reading
abbrev pub told_after : Option ℕ → ℕ → Option ℕ
told_after told now = if is_minute_over told now then Some now else told
