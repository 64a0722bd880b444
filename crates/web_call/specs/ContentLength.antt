-- The length of a request's body (RFC 9112, section 6.3, and RFC 9110, section 8.6).
use Rattle.std.specs.Prelude.{ℕ, Bool, ◌&&◌, if◌then◌else◌, nat_le, nat_lt, List, length, Option, Some, None, codes}
use Rattle.std.specs.Char.{is_ascii_digit}
use Rattle.std.specs.List.{list_all}
use Rattle.std.specs.Str.Parse.{digits_value}
use Rattle.web_call.specs.Lines.{count_named, first_named}

-- the value is a length: one to 18 ASCII digits, which is this server's limit
abbrev pub is_length : List ℕ → Bool
is_length value = nat_le 1 (length value) && nat_le (length value) 18 && list_all is_ascii_digit value

-- the length that the one line's value tells, if it is a length; without a line there is no body
abbrev pub length_of : Option (List ℕ) → Option ℕ
length_of None = Some 0
length_of (Some value) = if is_length value then Some (digits_value 10 value) else None

-- the length that the lines tell; two lines of that name tell none
abbrev pub content_length : List (List ℕ × List ℕ) → Option ℕ
content_length lines =
    if nat_lt 1 (count_named (codes "content-length") lines) then None
    else length_of (first_named (codes "content-length") lines)
