-- Header lines (RFC 9112, section 5), each as its name and its value, which has no spaces and tabs at its ends.
use Rattle.std.specs.Prelude.{ℕ, Bool, List, Option, count_by, find}
use Rattle.std.specs.Option.{option_map}
use Rattle.std.specs.Str.{str_eq_ignore_ascii_case}

-- the line has this name, but for the case of ASCII letters
abbrev pub is_named : List ℕ → List ℕ × List ℕ → Bool
is_named name line = str_eq_ignore_ascii_case line.0 name

-- how many lines have this name
abbrev pub count_named : List ℕ → List (List ℕ × List ℕ) → ℕ
count_named name lines = count_by (is_named name) lines

-- the value of the first line with this name
abbrev pub first_named : List ℕ → List (List ℕ × List ℕ) → Option (List ℕ)
first_named name lines = option_map (λ line. line.1) (find (is_named name) lines)
