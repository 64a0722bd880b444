-- Where the first line of a block ends, and that a block is its lines.
use Rattle.std.proofs.Common.{ℕ, ◌≡◌, ◌+◌, ◌<◌, ◌≤◌, ◌==◌, ◌&&◌, List, [], ◌∷◌, ◌++◌, length, take, drop, get_or, Bool, true, false, refl, sym, ap, ◌∙◌, arith, zero, suc, ◌-◌, length-drop, ◌≢◌, codes}
use Rattle.std.specs.List.{onto_first}
use Rattle.std.specs.Bool.{if◌then◌else◌}
use Rattle.std.proofs.lemmas.Bool.{eqb-true}
use Rattle.grpc_frame.proofs.Digits.{both}
use Rattle.std.proofs.Math.Seq.{take-length}
use Rattle.std.proofs.lemmas.Bool.Decides.{nat_tests}
use Rattle.grpc_frame.specs.Lines.{lines, HasNoEnd, AreLines, NoLine, LastLine, NextLine}

-- two bytes that are not CR LF
pub not_end : (c d : ℕ) → (c ≡ 13 → d ≡ 10 → ⊥) → (c == 13 && d == 10) ≡ false
not_end c d other = grind (arith, nat_tests)

-- no CR LF begins at a place below n
abbrev pub NoEndBelow : List ℕ → ℕ → Type 0
NoEndBelow bytes n = (k : ℕ) → k < n → get_or bytes k 0 ≡ 13 → get_or bytes (suc k) 0 ≡ 10 → ⊥

-- the first line ends at the first CR LF
pub line_ends : (bytes : List ℕ) (n : ℕ) → suc n < length bytes → NoEndBelow bytes n → get_or bytes n 0 ≡ 13 → get_or bytes (suc n) 0 ≡ 10
    → lines bytes ≡ take n bytes ∷ lines (drop (suc (suc n)) bytes)
line_ends [] n within none cr lf = absurd (omega arith)
line_ends (c ∷ []) n within none cr lf = absurd (omega arith)
line_ends (c ∷ d ∷ rest) zero within none cr lf = rw (cr, lf) refl
line_ends (c ∷ d ∷ rest) (suc n) within none cr lf =
    let behind : lines (d ∷ rest) ≡ take n (d ∷ rest) ∷ lines (drop (suc (suc n)) (d ∷ rest)) = line_ends (d ∷ rest) n (omega arith) (λ k below. none (suc k) (omega arith)) cr lf in
    rw (not_end c d (none 0 (omega arith)), behind) refl

-- without a CR LF the bytes are one line
pub line_whole : (bytes : List ℕ) → 0 < length bytes → ((k : ℕ) → suc k < length bytes → get_or bytes k 0 ≡ 13 → get_or bytes (suc k) 0 ≡ 10 → ⊥) → lines bytes ≡ bytes ∷ []
line_whole [] some none = absurd (omega arith)
line_whole (c ∷ []) some none = refl
line_whole (c ∷ d ∷ rest) some none =
    let behind : lines (d ∷ rest) ≡ (d ∷ rest) ∷ [] = line_whole (d ∷ rest) (omega arith) (λ k below. none (suc k) (omega arith)) in
    rw (not_end c d (none 0 (omega arith)), behind) refl

-- the same from the place of the CR LF's second byte
pub first_ends : (bytes : List ℕ) (i : ℕ) → 1 ≤ i → i < length bytes → ((k : ℕ) → suc k < i → get_or bytes k 0 ≡ 13 → get_or bytes (suc k) 0 ≡ 10 → ⊥)
    → get_or bytes (i - 1) 0 ≡ 13 → get_or bytes i 0 ≡ 10
    → lines bytes ≡ take (i - 1) bytes ∷ lines (take (length bytes - (i + 1)) (drop (i + 1) bytes))
first_ends bytes zero some within none cr lf = absurd (omega arith)
first_ends bytes (suc n) some within none cr lf =
    let back : suc n - 1 ≡ n = omega arith in
    let next : suc n + 1 ≡ suc (suc n) = omega arith in
    let left : length bytes - suc (suc n) ≡ length (drop (suc (suc n)) bytes) = sym (length-drop (suc (suc n)) bytes) in
    let begins : get_or bytes n 0 ≡ 13 = rw back at cr in
    rw (back, next, left, take-length (drop (suc (suc n)) bytes)) (line_ends bytes n within (λ k below. none k (omega arith)) begins lf)

-- a byte before a line leaves it without CR LF, unless the two begin with one
pub no_end_before : (c : ℕ) (line : List ℕ) → HasNoEnd line → (c ≡ 13 → get_or line 0 0 ≡ 10 → ⊥) → HasNoEnd (c ∷ line)
no_end_before c line none other [] behind same =
    let lf : get_or line 0 0 ≡ 10 = ap (λ (all : List ℕ). get_or all 1 0) same in
    other (cc) lf
no_end_before c line none other (d ∷ front) behind same = none front behind (cc)

-- nothing stands in no bytes
pub no_end_empty : HasNoEnd []
no_end_empty [] behind same = cc
no_end_empty (c ∷ front) behind same = cc

-- one byte more before the first line
pub grown : (c : ℕ) (bytes : List ℕ) (all : List (List ℕ)) → AreLines bytes all → 0 < length bytes → (c ≡ 13 → get_or bytes 0 0 ≡ 10 → ⊥) → AreLines (c ∷ bytes) (onto_first c all)
grown c bytes all NoLine some other = absurd (omega arith)
grown c bytes all (LastLine line full none) some other = LastLine (c ∷ line) (λ same. cc) (no_end_before c line none other)
grown c bytes all (NextLine [] rest others none more) some other = NextLine (c ∷ []) rest others (no_end_before c [] no_end_empty (λ cr zero. cc)) more
grown c bytes all (NextLine (d ∷ line) rest others none more) some other = NextLine (c ∷ d ∷ line) rest others (no_end_before c (d ∷ line) none other) more

-- one byte is a line
pub one_byte : (c : ℕ) → AreLines (c ∷ []) ((c ∷ []) ∷ [])
one_byte c = LastLine (c ∷ []) (λ same. cc) (no_end_before c [] no_end_empty (λ cr zero. cc))

-- one step of the cut
pub cut_here : (test : Bool) (c d : ℕ) (rest : List ℕ) → test ≡ (c == 13 && d == 10) → AreLines rest (lines rest) → AreLines (d ∷ rest) (lines (d ∷ rest))
    → AreLines (c ∷ d ∷ rest) (if test then [] ∷ lines rest else onto_first c (lines (d ∷ rest)))
cut_here true c d rest is below next =
    let parts : ((c == 13) ≡ true) × ((d == 10) ≡ true) = both (c == 13) (d == 10) (sym is) in
    rw (eqb-true c 13 parts.0, eqb-true d 10 parts.1) (NextLine [] rest (lines rest) no_end_empty below)
cut_here false c d rest is below next =
    grown c (d ∷ rest) (lines (d ∷ rest)) next (omega arith) (λ cr lf. let no : false ≡ true = rw (cr, lf) at is in cc)

-- a block is its lines
pub are_lines : (block : List ℕ) → AreLines block (lines block)
are_lines [] = NoLine
are_lines (c ∷ []) = one_byte c
are_lines (c ∷ d ∷ rest) = cut_here (c == 13 && d == 10) c d rest refl (are_lines rest) (are_lines (d ∷ rest))

-- without its first byte a line has no CR LF either
pub no_end_behind : (c : ℕ) (line : List ℕ) → HasNoEnd (c ∷ line) → HasNoEnd line
no_end_behind c line none front behind same = none (c ∷ front) behind (ap (λ (all : List ℕ). c ∷ all) same)

-- a line's first two bytes are not CR LF
pub no_end_first : (c d : ℕ) (line : List ℕ) → HasNoEnd (c ∷ d ∷ line) → (c == 13 && d == 10) ≡ false
no_end_first c d line none = not_end c d (λ cr lf. none [] line (rw (cr, lf) refl))

-- the line before CR LF is the first
pub line_first : (line rest : List ℕ) → HasNoEnd line → lines (line ++ codes "\r\n" ++ rest) ≡ line ∷ lines rest
line_first [] rest none = refl
line_first (c ∷ []) rest none = rw (not_end c 13 (λ cr zero. cc)) refl
line_first (c ∷ d ∷ line) rest none =
    rw (no_end_first c d line none, line_first (d ∷ line) rest (no_end_behind c (d ∷ line) none)) refl

-- bytes without CR LF are the last line
pub line_last : (line : List ℕ) → line ≢ [] → HasNoEnd line → lines line ≡ line ∷ []
line_last [] full none = absurd (full refl)
line_last (c ∷ []) full none = refl
line_last (c ∷ d ∷ line) full none =
    rw (no_end_first c d line none, line_last (d ∷ line) (λ same. cc) (no_end_behind c (d ∷ line) none)) refl

-- a block has no other lines
pub only_lines : (block : List ℕ) (all : List (List ℕ)) → AreLines block all → all ≡ lines block
only_lines block all NoLine = refl
only_lines block all (LastLine line full none) = sym (line_last line full none)
only_lines block all (NextLine line rest others none more) = ap (λ (behind : List (List ℕ)). line ∷ behind) (only_lines rest others more) ∙ sym (line_first line rest none)
