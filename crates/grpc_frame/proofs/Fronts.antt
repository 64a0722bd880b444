-- A frame at the front of some bytes is the only one there.
use Rattle.std.proofs.Common.{ℕ, ◌≡◌, ◌^◌, ◌<◌, List, [], ◌∷◌, ◌++◌, length, take, drop, refl, sym, ap, ◌∙◌, arith}
use Rattle.std.specs.Int.{w32, to_be_bytes, from_be_bytes}
use Rattle.std.proofs.lemmas.Nat.{from_be_bytes-to_be_bytes_4}
use Rattle.grpc_frame.specs.Frame.{frame}
use Rattle.grpc_frame.specs.Message.{HasOneFront}

-- joined lists that are one agree in their parts, where the first parts are equally long
pub same_parts : (first rest other more : List ℕ) → length first ≡ length other → first ++ rest ≡ other ++ more → (first ≡ other) × (rest ≡ more)
same_parts [] rest [] more len same = (refl, same)
same_parts [] rest (byte ∷ other) more len same = absurd (omega arith)
same_parts (byte ∷ first) rest [] more len same = absurd (omega arith)
same_parts (byte ∷ first) rest (other_byte ∷ other) more len same =
    let parts : (first ≡ other) × (rest ≡ more) = same_parts first rest other more (omega arith) (cc) in
    (cc, parts.1)

-- four bytes tell a length below 2 ^ 32
pub same_length : (n m : ℕ) → n < 2 ^ 32 → m < 2 ^ 32 → to_be_bytes w32 n ≡ to_be_bytes w32 m → n ≡ m
same_length n m n_fits m_fits same =
    sym (from_be_bytes-to_be_bytes_4 n n_fits) ∙ ap (from_be_bytes w32) same ∙ from_be_bytes-to_be_bytes_4 m m_fits

-- the frame at the front tells its length, and so where it ends
pub one_front : (bytes : List ℕ) → HasOneFront bytes
one_front bytes message rest other more one two =
    let same : frame 0 message ++ rest ≡ frame 0 other ++ more = sym one.parts ∙ two.parts in
    let lengths : to_be_bytes w32 (length message) ≡ to_be_bytes w32 (length other) = ap (λ (all : List ℕ). take 4 (drop 1 all)) same in
    let behind : message ++ rest ≡ other ++ more = ap (λ (all : List ℕ). drop 5 all) same in
    same_parts message rest other more (same_length (length message) (length other) one.fits two.fits lengths) behind
