-- Lines that a web browser sends to a port that a web page has it connect to.
use Rattle.std.specs.Prelude.{◌≡◌, ◌⊎◌, ◌==◌, ℕ, Bool, List, [], ◌∷◌, IsTrue, codes, map, nat_eq, take}
use Rattle.std.specs.Char.{to_ascii_lowercase}
use Rattle.std.specs.List.{after_first, starts_with}
use Rattle.control.specs.declared.session_terms.SessionTerms.{SessionTerms}

abbrev pub is_space : ℕ → Bool
is_space byte = byte == 32

-- a request line of HTTP (RFC 9112, section 3): a method, a target and a version are parted by one space each, and a version begins with
-- the name of HTTP and a slash. What stands behind these is not asked
abbrev pub IsRequestLine : List ℕ → Type 0
IsRequestLine line = IsTrue (starts_with nat_eq (after_first is_space (after_first is_space line)) (codes "HTTP/"))

-- the header line that each request of HTTP/1.1 has (RFC 9112, section 3.2), in any case of its name
abbrev pub IsHostLine : List ℕ → Type 0
IsHostLine line = map to_ascii_lowercase (take 5 line) ≡ codes "host:"

-- the front of a handshake of TLS (RFC 8446, section 5.1): the type of its record, and the first byte of a version
abbrev pub IsHandshake : List ℕ → Type 0
IsHandshake line = IsTrue (starts_with nat_eq line (22 ∷ 3 ∷ []))

abbrev pub IsWebLine : List ℕ → Type 0
IsWebLine line = IsRequestLine line ⊎ IsHostLine line ⊎ IsHandshake line

-- the line came over TCP, and a browser sends such a line
abbrev pub IsForeign : SessionTerms → List ℕ → Type 0
IsForeign terms line = IsTrue terms.over_tcp × IsWebLine line
