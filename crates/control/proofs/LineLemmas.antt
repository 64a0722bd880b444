-- The first line of what was given.
use Rattle.std.proofs.Common.{ℕ, zero, suc, ◌≡◌, ◌+◌, ◌<◌, ◌≤◌, inl, inr, ◌==◌, Bool, true, false, List, [], ◌∷◌, ◌++◌, length, length-append, drop, take, get_or, sym, refl, ap, ◌∙◌, arith, ⊎_elim, true≢false}
use Rattle.std.specs.Prelude.{if◌then◌else◌, min, not}
use Rattle.std.proofs.lemmas.Bool.{cases_lt}
use Rattle.std.proofs.lemmas.List.{drop_all}
use Rattle.control.specs.Session.{IsClosed, IsWithin, first_line, behind_line, ends_open}

-- the front of that length is the first line
take_by : (b : Bool) (c : ℕ) (line rest : List ℕ) → take (length line) rest ≡ line → take (length (if b then [] else c ∷ line)) (c ∷ rest) ≡ (if b then [] else c ∷ line)
take_by true c line rest same = refl
take_by false c line rest same = ap (λ more. c ∷ more) same

pub take_line : (bytes : List ℕ) → take (length (first_line bytes)) bytes ≡ first_line bytes
take_line [] = refl
take_line (c ∷ rest) = take_by (c == 10) c (first_line rest) rest (take_line rest)

-- the rest behind it and its LF is what stands behind the first line
drop_by : (b : Bool) (c : ℕ) (line behind rest : List ℕ) → drop (suc (length line)) rest ≡ behind
    → drop (suc (length (if b then [] else c ∷ line))) (c ∷ rest) ≡ (if b then rest else behind)
drop_by true c line behind rest same = refl
drop_by false c line behind rest same = same

drop_whole : (bytes : List ℕ) → drop (suc (length (first_line bytes))) bytes ≡ behind_line bytes
drop_whole [] = refl
drop_whole (c ∷ rest) = drop_by (c == 10) c (first_line rest) (behind_line rest) rest (drop_whole rest)

pub drop_line : (bytes : List ℕ) (len end : ℕ) → len ≡ length bytes → end ≡ min len (length (first_line bytes) + 1) → drop end bytes ≡ behind_line bytes
drop_line bytes len end all is =
    ⊎_elim
    (λ (less : len < suc (length (first_line bytes))). drop_all end bytes (omega (arith, is, less, all))
    ∙ (sym (drop_all (suc (length (first_line bytes))) bytes (omega (arith, less, all))) ∙ drop_whole bytes))
    (λ more. let same : end ≡ suc (length (first_line bytes)) = omega (arith, is, more) in ap (λ n. drop n bytes) same ∙ drop_whole bytes)
    (cases_lt len (suc (length (first_line bytes))))

-- the last byte tells whether bytes stand behind the last LF
pub last_tells : (bytes : List ℕ) (place : ℕ) → suc place ≡ length bytes → not (get_or bytes place 0 == 10) ≡ ends_open bytes
last_tells [] place is = absurd (omega (arith, is))
last_tells (c ∷ []) zero is = refl
last_tells (c ∷ []) (suc place) is = absurd (omega (arith, is))
last_tells (c ∷ d ∷ rest) zero is = absurd (omega (arith, is))
last_tells (c ∷ d ∷ rest) (suc place) is = last_tells (d ∷ rest) place (omega (arith, is))

-- the first line has no more bytes than there are
within_by : (b : Bool) (c : ℕ) (line : List ℕ) (most : ℕ) → length line ≤ most → length (if b then [] else c ∷ line) ≤ suc most
within_by true c line most less = omega arith
within_by false c line most less = omega (arith, less)

pub line_within : (bytes : List ℕ) → length (first_line bytes) ≤ length bytes
line_within [] = omega arith
line_within (c ∷ rest) = within_by (c == 10) c (first_line rest) (length rest) (line_within rest)

-- a first line behind which there is more stays where more bytes come
stays_by : (b : Bool) (c : ℕ) (line now : List ℕ) (most : ℕ) → (length line < most → now ≡ line) → length (if b then [] else c ∷ line) < suc most
    → (if b then [] else c ∷ now) ≡ (if b then [] else c ∷ line)
stays_by true c line now most same less = refl
stays_by false c line now most same less = ap (λ l. c ∷ l) (same (omega (arith, less)))

first_stays : (bytes more : List ℕ) → length (first_line bytes) < length bytes → first_line (bytes ++ more) ≡ first_line bytes
first_stays [] more less = absurd (omega (arith, less))
first_stays (c ∷ rest) more less = stays_by (c == 10) c (first_line rest) (first_line (rest ++ more)) (length rest) (first_stays rest more) less

-- LF closes the last line
pub closed_with : (bytes : List ℕ) → ends_open (bytes ++ 10 ∷ []) ≡ false
closed_with [] = refl
closed_with (c ∷ []) = refl
closed_with (c ∷ d ∷ rest) = closed_with (d ∷ rest)

-- there is room for that LF
pub closed_fits : (bytes : List ℕ) → IsWithin bytes → ends_open bytes ≡ true → length (first_line bytes) < 1025 → IsWithin (bytes ++ 10 ∷ [])
closed_fits bytes within open_ short = ⊎_elim
    (λ (most : length bytes ≤ 1025). ⊎_elim
    (λ (less : length bytes < 1025). inl (omega (arith, length-append bytes (10 ∷ []), less)))
    (λ many. inr record {
      size = omega (arith, length-append bytes (10 ∷ []), most, many);
      first = omega (arith, ap length (first_stays bytes (10 ∷ []) (omega (arith, short, many))), short);
      closed = closed_with bytes;
    })
    (cases_lt (length bytes) 1025))
    (λ (closed : IsClosed bytes). absurd (true≢false (sym open_ ∙ closed.closed)))
    within
