-- Where a server is asked for changes while it runs.
use Rattle.std.specs.Prelude.{◌≡◌, ◌≤◌, ◌==◌, true, false, ℕ, List, Option, None, Some, length, codes}
use Rattle.std.specs.List.{list_any, starts_with}
use Rattle.std.specs.declared.net.socket_addr.SocketAddr.{SocketAddr}
use Rattle.std.specs.Net.Addr.{MatchIp, IsLoopbackV4, IsLoopbackV6}
use Rattle.std.specs.Net.Grammar.{IsSocketText}
use Rattle.std.specs.Net.Socket.{socket_ip}
use Rattle.std.specs.Net.Text.{socket_text}
use Rattle.control.specs.declared.place.Place.{Place}
use Rattle.control.specs.declared.place.Place.TheVariants.{Address, Path}

-- only this machine reaches the address
abbrev pub IsLoopback : SocketAddr → Type 0
IsLoopback addr = MatchIp (socket_ip addr) IsLoopbackV4 IsLoopbackV6

-- a Unix socket can have this path: it begins with a slash, no byte is NUL, and the 108 bytes that a socket has for it have room for
-- a NUL at its end
pub record IsSocketPath (path : List ℕ) : Type 0 where
  pub begins : starts_with (λ a b. a == b) path (codes "/") ≡ true
  pub no_nul : list_any (λ byte. byte == 0) path ≡ false
  pub fits : length path ≤ 107

-- a server may listen there: where no other machine asks, and only at a path that a socket can have
abbrev pub IsLocal : Place → Type 0
IsLocal (Address addr) = IsLoopback addr
IsLocal (Path path) = IsSocketPath path.now

-- the path of a place; none where it is an address
abbrev pub path_of : Place → Option (List ℕ)
path_of (Address _) = None
path_of (Path path) = Some path.now

-- the text is how the place is written on a command line
abbrev pub IsPlaceText : List ℕ → Place → Type 0
IsPlaceText text (Address addr) = IsSocketText text addr × IsLoopback addr
IsPlaceText text (Path path) = (text ≡ path.now) × IsSocketPath text

-- how a place is printed
abbrev pub place_text : Place → List ℕ
place_text (Address addr) = socket_text addr
place_text (Path path) = path.now
