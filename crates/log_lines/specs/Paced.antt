-- What an allowance answers after all that it met, the newest first.
use Rattle.std.specs.Prelude.{ℕ, Bool, Option, List, [], ◌∷◌}
use Rattle.log_lines.specs.declared.met.Met.{Met}
use Rattle.log_lines.specs.declared.met.Met.TheVariants.{Asked, Looked}
use Rattle.log_lines.specs.declared.second.Second.{Second}
use Rattle.log_lines.specs.Second.{after_ask, after_look, has_room, told_by, turned, unbegun}

-- the second in which lines are written, and what was left out
abbrev pub second_after : List Met → Second
second_after [] = unbegun
second_after (Asked now ∷ past) = after_ask now (turned now (second_after past))
second_after (Looked now ∷ past) = after_look now (turned now (second_after past))

-- whether a line may be written at this reading
abbrev pub is_taken : List Met → ℕ → Bool
is_taken past now = has_room (turned now (second_after past))

-- how many lines somebody who asks at this reading is told to have been left out
abbrev pub told_at : List Met → ℕ → Option ℕ
told_at past now = told_by (turned now (second_after past))
