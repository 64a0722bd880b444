-- What the laws speak of. Each past has the newest first.
use Rattle.std.specs.Prelude.{ℕ, ◌+◌, List, [], ◌∷◌, unwrap_or, if◌then◌else◌}
use Rattle.log_lines.specs.declared.met.Met.{Met}
use Rattle.log_lines.specs.declared.met.Met.TheVariants.{Asked, Looked}
use Rattle.log_lines.specs.Paced.{is_taken, second_after, told_at}

-- for how many lines somebody asked
abbrev pub asked : List Met → ℕ
asked [] = 0
asked (Asked now ∷ past) = asked past + 1
asked (Looked now ∷ past) = asked past

-- how many of them were written
abbrev pub written : List Met → ℕ
written [] = 0
written (Asked now ∷ past) = if is_taken past now then written past + 1 else written past
written (Looked now ∷ past) = written past

-- how many lines were told to have been left out
abbrev pub told : List Met → ℕ
told [] = 0
told (Asked now ∷ past) = told past
told (Looked now ∷ past) = told past + unwrap_or (told_at past now) 0

-- how many lines were left out, and are still to be told
abbrev pub untold : List Met → ℕ
untold past = (second_after past).over + (second_after past).left
