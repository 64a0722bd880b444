-- The head at the front of an input (RFC 9112, section 2.1), up to this server's limit.
use Rattle.std.specs.Prelude.{ℕ, ◌≡◌, ◌<◌, ◌≤◌, ◌⊎◌, Bool, true, false, nat_eq, List, length, take, codes}
use Rattle.std.specs.List.{ends_with}

-- the most bytes that are read as a head, which is this server's limit
abbrev pub max_head_len : ℕ
max_head_len = 8192

-- the bytes end in CR LF CR LF: the end of a line, and an empty line
abbrev pub ends_blank : List ℕ → Bool
ends_blank bytes = ends_with nat_eq bytes (codes "\r\n\r\n")

-- the shortest front of an input that ends in CR LF CR LF or, where none within the limit does, the first 8,192 bytes
pub record IsHead (head : List ℕ) : Type 0 where
  pub ends : (ends_blank head ≡ true) ⊎ (length head ≡ max_head_len)
  pub first : (k : ℕ) → k < length head → ends_blank (take k head) ≡ false
  pub within : length head ≤ max_head_len

-- neither the bytes nor a front of them are a head, so more would have to be read
pub record IsOpenHead (bytes : List ℕ) : Type 0 where
  pub ends_nowhere : (k : ℕ) → k ≤ length bytes → ends_blank (take k bytes) ≡ false
  pub within : length bytes < max_head_len
