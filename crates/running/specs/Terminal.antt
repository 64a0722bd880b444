-- Which files are terminals on Linux.
use Rattle.std.specs.Prelude.{ℕ, ◌≡◌, ◌⊎◌, List, ◌++◌, codes}

-- the path begins with these words
abbrev pub BeginsWith : List ℕ → List ℕ → Type 0
BeginsWith path front = (rest : List ℕ) × (path ≡ front ++ rest)

-- a pseudo terminal, a virtual or serial one, or the console
abbrev pub IsTerminalPath : List ℕ → Type 0
IsTerminalPath path = BeginsWith path (codes "/dev/pts/") ⊎ BeginsWith path (codes "/dev/tty") ⊎ (path ≡ codes "/dev/console")
