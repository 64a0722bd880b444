-- What some editors put before a text.
use Rattle.std.specs.Prelude.{ℕ, List, [], ◌∷◌}

-- the byte order mark, U+FEFF in UTF-8
abbrev pub mark : List ℕ
mark = 0xEF ∷ 0xBB ∷ 0xBF ∷ []
