-- Frames (doc/PROTOCOL-WEB.md of grpc).
use Rattle.std.specs.Prelude.{ℕ, List, ◌∷◌, ◌++◌, length}
use Rattle.std.specs.Int.{w32, to_be_bytes}

-- a frame: one byte of flag, the content's length in four bytes, big-endian, and the content.
-- Flag 0 says a message, 1 a compressed one; the top bit says trailers, and 128 alone that they are not compressed
abbrev pub frame : ℕ → List ℕ → List ℕ
frame flag content = flag ∷ to_be_bytes w32 (length content) ++ content
