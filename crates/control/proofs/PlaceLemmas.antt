-- What a text is that spells no place.
use Rattle.std.proofs.Common.{ℕ, List, subst}
use Rattle.std.specs.declared.net.socket_addr.SocketAddr.{SocketAddr}
use Rattle.std.specs.Net.Grammar.{IsSocketText}
use Rattle.std.proofs.NetLemmas.Theorems.{IsSocketText_unique}
use Rattle.control.specs.declared.place.Place.{Place}
use Rattle.control.specs.declared.place.Place.TheVariants.{Address, Path}
use Rattle.control.specs.Place.{IsLoopback, IsPlaceText, IsSocketPath}

-- an address that is not loopback is no place, since a text spells one address
pub elsewhere_is_no_place : (text : List ℕ) (addr : SocketAddr) (place : Place) → IsSocketText text addr → ¬ (IsLoopback addr) → ¬ (IsSocketPath text)
    → ¬ (IsPlaceText text place)
elsewhere_is_no_place text addr (Address other) spells elsewhere no_path (spelled, loopback) =
    elsewhere (subst IsLoopback (IsSocketText_unique text other addr spelled spells) loopback)
elsewhere_is_no_place text addr (Path path) spells elsewhere no_path (_, is_path) = no_path is_path

-- neither a path nor an address
pub neither_is_no_place : (text : List ℕ) (place : Place) → ((addr : SocketAddr) → ¬ (IsSocketText text addr)) → ¬ (IsSocketPath text) → ¬ (IsPlaceText text place)
neither_is_no_place text (Address addr) no_addr no_path (spelled, _) = no_addr addr spelled
neither_is_no_place text (Path path) no_addr no_path (_, is_path) = no_path is_path
