-- A splitter's buffer, and the header at the front of its rest.
use Rattle.std.proofs.Common.{ℕ, ◌≡◌, ◌+◌, ◌-◌, ◌^◌, ◌<◌, ◌≤◌, List, [], ◌∷◌, ◌++◌, length, take, drop, get_or, IsTrue, nat_lt, refl, sym, ap, ◌∙◌, subst, arith, length-drop, length-append, zero, suc}
use Rattle.std.proofs.Math.Seq.{drop-append_seam}
use Rattle.std.proofs.lemmas.List.{drop-drop}
use Rattle.std.proofs.lemmas.Nat.{be_bytes_4, from_be_bytes-to_be_bytes_4}
use Rattle.std.proofs.lemmas.Bool.{ltb-true, lt-ltb}
use Rattle.std.specs.Int.{w32, to_be_bytes, from_be_bytes}
use Rattle.grpc_frame.specs.Frame.{frame}
use Rattle.grpc_frame.specs.Split.{max_content_len, BeginsWithFrame, BeginsTooLong}

-- what stands behind the front of the bytes from a place on stands at the end of all of them
pub rest_behind : (items front rest : List ℕ) (start : ℕ) → start ≤ length items → drop start items ≡ front ++ rest → drop (length items - length rest) items ≡ rest
rest_behind items front rest start within same =
    let at : length items - length rest ≡ start + length front = omega (arith, length-drop start items, length-append front rest, ap length same) in
    rw at (sym (drop-drop (length front) start items) ∙ ap (λ (bytes : List ℕ). drop (length front) bytes) same ∙ drop-append_seam front rest)

-- a header's four bytes of length, each a byte
pub four_fit : (a b c d : ℕ) → a < 256 → b < 256 → c < 256 → d < 256 → (i : ℕ) → get_or (a ∷ b ∷ c ∷ d ∷ []) i 0 < 256
four_fit a b c d p q r s zero = p
four_fit a b c d p q r s (suc zero) = q
four_fit a b c d p q r s (suc (suc zero)) = r
four_fit a b c d p q r s (suc (suc (suc zero))) = s
four_fit a b c d p q r s (suc (suc (suc (suc i)))) = omega arith

-- what stands behind the frame at the front is the rest from the new start on
pub taken_front : (items value bytes content body rest : List ℕ) (flag start end : ℕ) → start ≤ length items → end ≡ length items
    → drop start items ≡ value → bytes ≡ value → BeginsWithFrame bytes flag content rest → body ≡ content
    → BeginsWithFrame value flag body (drop (end - length rest) items)
taken_front items value bytes content body rest flag start end within all view is front same =
    rw (all, rest_behind items (frame flag content) rest start within (view ∙ sym is ∙ front.parts), same) (subst (λ (all : List ℕ). BeginsWithFrame all flag content rest) is front)

-- a length is over the limit exactly where the bytes begin too long
pub over_tells : (bytes : List ℕ) (len : ℕ) → 5 ≤ length bytes → ((i : ℕ) → get_or bytes i 0 < 256) → len < 2 ^ 32
    → len ≡ from_be_bytes w32 (get_or bytes 1 0 ∷ get_or bytes 2 0 ∷ get_or bytes 3 0 ∷ get_or bytes 4 0 ∷ [])
    → (max_content_len < len → BeginsTooLong bytes) × (BeginsTooLong bytes → max_content_len < len)
over_tells [] len five fit fits is = absurd (omega arith)
over_tells (flag ∷ []) len five fit fits is = absurd (omega arith)
over_tells (flag ∷ a ∷ []) len five fit fits is = absurd (omega arith)
over_tells (flag ∷ a ∷ b ∷ []) len five fit fits is = absurd (omega arith)
over_tells (flag ∷ a ∷ b ∷ c ∷ []) len five fit fits is = absurd (omega arith)
over_tells (flag ∷ a ∷ b ∷ c ∷ d ∷ rest) len five fit fits is =
    let four : to_be_bytes w32 len ≡ a ∷ b ∷ c ∷ d ∷ [] = be_bytes_4 (a ∷ b ∷ c ∷ d ∷ []) len refl (four_fit a b c d (fit 1) (fit 2) (fit 3) (fit 4)) is in (
      λ over. record { flag = flag; len = len; rest = rest; over = over; fits = fits; parts = ap (λ (field : List ℕ). flag ∷ field ++ rest) (sym four) },
      λ long. let told : from_be_bytes w32 (a ∷ b ∷ c ∷ d ∷ []) ≡ long.len = ap (λ (all : List ℕ). from_be_bytes w32 (take 4 (drop 1 all))) long.parts
          ∙ from_be_bytes-to_be_bytes_4 long.len long.fits in
          let over : max_content_len < long.len = long.over in
          omega arith,
    )

-- the same of the test
pub over_test : (bytes : List ℕ) (len : ℕ) → (max_content_len < len → BeginsTooLong bytes) × (BeginsTooLong bytes → max_content_len < len)
    → (IsTrue (nat_lt max_content_len len) → BeginsTooLong bytes) × (BeginsTooLong bytes → IsTrue (nat_lt max_content_len len))
over_test bytes len tells = (λ test. tells.0 (ltb-true max_content_len len test), λ long. lt-ltb max_content_len len (tells.1 long))
