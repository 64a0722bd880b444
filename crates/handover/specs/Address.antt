-- The address at which a supervisor is notified (sd_notify(3), unix(7)).
use Rattle.std.specs.Prelude.{ℕ, ◌≡◌, ◌≤◌, ◌==◌, ◌||◌, Bool, true, false, if◌then◌else◌, List, [], ◌∷◌, ◌++◌, length, drop, codes}
use Rattle.std.specs.List.{list_any, starts_with}
use Rattle.handover.specs.declared.address.TheConstants.{MAX_NAME_LEN}

-- the name is an absolute path
abbrev pub is_path : List ℕ → Bool
is_path name = starts_with (λ a b. a == b) name (codes "/")

-- the name is one of the abstract namespace: `@` stands for the NUL that begins it
abbrev pub is_abstract : List ℕ → Bool
is_abstract name = starts_with (λ a b. a == b) name (codes "@")

-- NOTIFY_SOCKET may have this name. The 108 bytes that an address has for it have room for a NUL at the end of a path
pub record IsNotifyName (name : List ℕ) : Type 0 where
  pub begins : (is_path name || is_abstract name) ≡ true
  pub no_nul : list_any (λ byte. byte == 0) name ≡ false
  pub least : 2 ≤ length name
  pub most : length name ≤ MAX_NAME_LEN

-- The bytes of a sockaddr_un: AF_UNIX in two bytes, the lower first; then a path and a NUL, or a NUL and an abstract name
abbrev pub address_bytes : List ℕ → List ℕ
address_bytes name = 1 ∷ 0 ∷ (if is_abstract name then 0 ∷ drop 1 name else name ++ 0 ∷ [])
