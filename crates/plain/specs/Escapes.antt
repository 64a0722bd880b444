-- Percent-encoded names (RFC 3986, section 2.1).
use Rattle.std.specs.Prelude.{ℕ, Bool, true, false, ◌==◌, ◌&&◌, ◌||◌, not, if◌then◌else◌, List, [], ◌∷◌, Option, None, Some}
use Rattle.std.specs.Char.{is_ascii_hexdigit}
use Rattle.percent_encoding.specs.Percent.{percent_decode}

-- two hexadecimal digits stand at the front
abbrev pub begins_with_digits : List ℕ → Bool
begins_with_digits [] = false
begins_with_digits (high ∷ []) = false
begins_with_digits (high ∷ low ∷ rest) = is_ascii_hexdigit high && is_ascii_hexdigit low

-- each percent sign begins an escape
abbrev pub are_whole : List ℕ → Bool
are_whole [] = true
are_whole (c ∷ rest) = (not (c == 37) || begins_with_digits rest) && are_whole rest

-- the name that stands escaped there; none where a percent sign begins no escape
abbrev pub name_of : List ℕ → Option (List ℕ)
name_of escaped = if are_whole escaped then Some (percent_decode escaped) else None
