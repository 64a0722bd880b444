-- What a conversation moves: bytes that come in and go out, and steps of its host.
use Rattle.std.specs.Prelude.{ℕ, ◌+◌, Bool, Option, List, [], ◌∷◌, ◌++◌, length, refl}
use Rattle.std.specs.Coded.{Coded, code_by, coded×, coded_ℕ, coded_list, coded_option, coded_bool}
use Rattle.web_call.specs.Answer.{Source}

-- the bytes that were read, how many at their end stand behind what is taken and were thrown away, the bytes that were sent, the steps
-- that the host took, each with what it answered from, and how often the machine was told that its input is at its end
pub record Moved : Type 0 where
  pub read : List ℕ
  pub behind : ℕ
  pub sent : List ℕ
  pub steps : List Source
  pub ends : ℕ

abbrev source_code : Coded Source
source_code =
    code_by (List (List ℕ) × (Option ℕ × Bool)) (coded× (coded_list (coded_list coded_ℕ)) (coded× (coded_option coded_ℕ) coded_bool))
    (λ source. (source.names, (source.kept, source.is_plain))) (λ p. record { names = p.0; kept = p.1.0; is_plain = p.1.1 }) (λ _. refl)

-- how a proof stores what was moved
abbrev pub moved_code : Coded Moved
moved_code =
    code_by (List ℕ × (ℕ × (List ℕ × (List Source × ℕ)))) (coded× (coded_list coded_ℕ) (coded× coded_ℕ (coded× (coded_list coded_ℕ) (coded× (coded_list source_code) coded_ℕ))))
    (λ moved. (moved.read, (moved.behind, (moved.sent, (moved.steps, moved.ends)))))
    (λ p. record { read = p.0; behind = p.1.0; sent = p.1.1.0; steps = p.1.1.1.0; ends = p.1.1.1.1 }) (λ _. refl)

abbrev pub nothing_moved : Moved
nothing_moved = record { read = []; behind = 0; sent = []; steps = []; ends = 0 }

-- these bytes were read, of which so many at the end were thrown away
abbrev pub only_read : List ℕ → ℕ → Moved
only_read bytes behind = record { read = bytes; behind = behind; sent = []; steps = []; ends = 0 }

-- these bytes were sent
abbrev pub only_sent : List ℕ → Moved
only_sent bytes = record { read = []; behind = 0; sent = bytes; steps = []; ends = 0 }

-- the host took a step, and answered from this
abbrev pub only_stepped : Source → Moved
only_stepped source = record { read = []; behind = 0; sent = []; steps = source ∷ []; ends = 0 }

-- the input is at its end
abbrev pub only_ended : Moved
only_ended = record { read = []; behind = 0; sent = []; steps = []; ends = 1 }

-- what was moved first, and then what was moved later
abbrev pub followed_by : Moved → Moved → Moved
followed_by first later = record {
  read = first.read ++ later.read;
  behind = first.behind + later.behind;
  sent = first.sent ++ later.sent;
  steps = first.steps ++ later.steps;
  ends = first.ends + later.ends;
}

-- all that was moved, by number
abbrev pub done_by : Moved → ℕ
done_by moved = length moved.read + length moved.sent + length moved.steps + moved.ends
