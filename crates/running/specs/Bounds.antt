-- How much a server holds.
use Rattle.std.specs.Prelude.{ℕ, ◌*◌, ◌/◌, Option, None, Some}

-- how many of so many connections may be open Watches: as many as were asked for, or nine tenths of them
abbrev pub watches_of : ℕ → Option ℕ → ℕ
watches_of connections (Some watches) = watches
watches_of connections None = connections * 9 / 10
