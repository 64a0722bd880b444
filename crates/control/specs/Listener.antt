-- Where a listener listens.
use Rattle.std.specs.Prelude.{ℕ, List, Option, None, Some, string_bytes}
use Rattle.control.specs.declared.listener.ControlListener.{ControlListener}
use Rattle.control.specs.declared.listener.ControlListener.TheVariants.{Tcp, Unix}

-- the path of its file; none where it has an address
abbrev pub path_listened : ControlListener → Option (List ℕ)
path_listened (Tcp _) = None
path_listened (Unix place) = Some (string_bytes place.path)
