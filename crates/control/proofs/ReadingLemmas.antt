-- Bytes of a line that were read one by one.
use Rattle.std.proofs.Common.{ℕ, suc, zero, ◌≡◌, ◌≤◌, ◌≢◌, Option, List, [], ◌∷◌, ◌++◌, length, take, get_or, subst, sym, refl, arith, ap, ◌∙◌, length-append}
use Rattle.std.specs.Prelude.{Result, Ok, Err, OnErr}
use Rattle.std.proofs.KnownBytes.{Consumes-trans, Consumes-kept}
use Rattle.std.proofs.lemmas.List.{append-nil}
use Rattle.std.proofs.lemmas.List.Elements.{All-append, All-cons, All-nil}
use Rattle.std.proofs.Math.Seq.{take-nil}
use Rattle.std.specs.Io.KnownBytes.{Consumes, Keeps}
use Rattle.control.specs.Line.{IsPartOfLine}

-- these bytes of a line were read, for which there was room, and is
pub record IsReading (old new : Option (List ℕ)) (line : List ℕ) (capacity_before capacity : ℕ) : Type 0 where
  pub consumed : Consumes old new line
  pub part : IsPartOfLine line
  pub short : length line ≤ 65537
  pub room : capacity_before ≤ capacity

-- the one byte of a list of one byte, of which not none are taken
pub take-one : (buf : List ℕ) (count : ℕ) → length buf ≡ 1 → count ≢ 0 → take count buf ≡ get_or buf 0 0 ∷ []
take-one [] count one some = absurd (omega (one, arith))
take-one (byte ∷ []) zero one some = absurd (some refl)
take-one (byte ∷ []) (suc count) one some = ap (λ rest. byte ∷ rest) (take-nil count)
take-one (byte ∷ other ∷ buf) count one some = absurd (omega (one, arith))

-- one more byte of a line was read
pub Consumes-more : (a b c : Option (List ℕ)) (line buf more : List ℕ) (count : ℕ) → Consumes a b line → Consumes b c (take count buf)
    → length buf ≡ 1 → count ≢ 0 → more ≡ line ++ get_or buf 0 0 ∷ [] → Consumes a c more
Consumes-more a b c line buf more count before now one some is =
    let joined = Consumes-trans a b c line (take count buf) before now in
    subst (Consumes a c) (ap (λ byte. line ++ byte) (take-one buf count one some) ∙ sym is) joined

-- one more byte that is no line feed
pub part_more : (line more : List ℕ) (byte : ℕ) → IsPartOfLine line → byte ≢ 10 → more ≡ line ++ byte ∷ [] → IsPartOfLine more
part_more line more byte part other is =
    subst IsPartOfLine (sym is) (All-append (λ b. b ≢ 10) line (byte ∷ []) part (All-cons (λ b. b ≢ 10) byte [] other (All-nil (λ b. b ≢ 10))))

pub short_more : (line more : List ℕ) (byte len : ℕ) → len ≡ length line → len ≤ 65536 → more ≡ line ++ byte ∷ [] → length more ≤ 65537
short_more line more byte len is short pushed = omega (arith, is, short, ap length pushed, length-append line (byte ∷ []))

-- no byte was read behind the line
pub none_more : (a b c : Option (List ℕ)) (line buf : List ℕ) (count : ℕ) → Consumes a b line → Consumes b c (take count buf) → count ≡ 0 → Consumes a c line
none_more a b c line buf count before now none =
    let nothing : take count buf ≡ [] = ap (λ n. take n buf) none in
    subst (Consumes a c) (append-nil line) (subst (λ bytes. Consumes a c (line ++ bytes)) nothing (Consumes-trans a b c line (take count buf) before now))

-- a call that failed read nothing
pub failed_more : {V E : Type 0} (r : Result V E) (a b c : Option (List ℕ)) (line : List ℕ) → Consumes a b line → Keeps b c → OnErr r (Consumes a c line)
failed_more (Ok v) a b c line before kept = tt
failed_more (Err e) a b c line before kept = Consumes-kept a b c line before kept
