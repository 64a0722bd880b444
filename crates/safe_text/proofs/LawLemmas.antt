-- No character of a text that can be printed is unsafe.
use Rattle.std.proofs.Common.{ℕ, ◌≡◌, ◌/◌, ◌%◌, ◌<◌, ◌≤◌, ◌==◌, true, false, if◌then◌else◌, zero, suc, List, [], ◌∷◌, ◌++◌, codes, refl, ap, ◌∙◌, arith, append-nil, lit≤, lit<}
use Rattle.std.proofs.lemmas.Bool.Decides.{nat_tests}
use Rattle.std.proofs.lemmas.Str.{encodes-IsAscii, encodes-append, IsAscii-append}
use Rattle.std.specs.Fmt.{digit_glyph, digits, digits_onto}
use Rattle.std.specs.Str.{IsAscii, NonePass, NoCharPasses, encode_utf8_all}
use Rattle.std.specs.Prelude.{encode_utf8}
use Rattle.safe_text.specs.Safe.{is_unsafe, safe, safe_char}

-- each of these bytes is a character of ASCII that can be seen
abbrev ArePlain : List ℕ → Type 0
ArePlain [] = Unit {0}
ArePlain (b ∷ bs) = (32 ≤ b) × (b < 127) × ArePlain bs

plain_safe : (b : ℕ) → 32 ≤ b → b < 127 → is_unsafe b ≡ false
plain_safe b low high = grind (arith, nat_tests)

plain_none : (bs : List ℕ) → ArePlain bs → NonePass is_unsafe bs
plain_none [] plain = tt
plain_none (b ∷ bs) plain = (plain_safe b plain.0 plain.1, plain_none bs plain.2)

plain_append : (a b : List ℕ) → ArePlain a → ArePlain b → ArePlain (a ++ b)
plain_append [] b first second = second
plain_append (x ∷ a) b first second = (first.0, first.1, plain_append a b first.2 second)

glyph_low : (d : ℕ) → d < 16 → 32 ≤ digit_glyph false d
glyph_low d small = grind (arith, nat_tests)

glyph_high : (d : ℕ) → d < 16 → digit_glyph false d < 127
glyph_high d small = grind (arith, nat_tests)

onto_plain : (k n : ℕ) (acc : List ℕ) → ArePlain acc → ArePlain (digits_onto k 16 false n acc)
onto_plain zero n acc plain = plain
onto_plain (suc k) n acc plain =
    let small : n % 16 < 16 = search arith in
    let more : ArePlain (digit_glyph false (n % 16) ∷ acc) = (glyph_low (n % 16) small, glyph_high (n % 16) small, plain) in
    elim (n / 16 == 0) as (λ t. ArePlain (if t then digit_glyph false (n % 16) ∷ acc else digits_onto k 16 false (n / 16) (digit_glyph false (n % 16) ∷ acc))) [
      | true ↦ more
      | false ↦ onto_plain k (n / 16) (digit_glyph false (n % 16) ∷ acc) more
    ]

digits_plain : (n : ℕ) → ArePlain (digits 16 false n)
unfolding digits
digits_plain n = onto_plain 64 n [] tt

one_ascii : (b : ℕ) → b < 127 → IsAscii (b ∷ [])
one_ascii b small zero = search (arith, small)
one_ascii b small (suc i) = search (arith, small)

plain_ascii : (bs : List ℕ) → ArePlain bs → IsAscii bs
plain_ascii [] plain = λ i. search arith
plain_ascii (b ∷ bs) plain = IsAscii-append (b ∷ []) bs (one_ascii b plain.1) (plain_ascii bs plain.2)

none_of_plain : (bs : List ℕ) → ArePlain bs → NoCharPasses is_unsafe bs
none_of_plain bs plain = (bs, encodes-IsAscii bs (plain_ascii bs plain), plain_none bs plain)

escape_plain : (c : ℕ) → ArePlain (codes "\\u{" ++ digits 16 false c ++ codes "}")
escape_plain c =
    let front : ArePlain (codes "\\u{") = (lit≤ tt, lit< tt, (lit≤ tt, lit< tt, (lit≤ tt, lit< tt, tt))) in
    let end : ArePlain (codes "}") = (lit≤ tt, lit< tt, tt) in
    plain_append (codes "\\u{" ++ digits 16 false c) (codes "}") (plain_append (codes "\\u{") (digits 16 false c) front (digits_plain c)) end

none_append : (cs ds : List ℕ) → NonePass is_unsafe cs → NonePass is_unsafe ds → NonePass is_unsafe (cs ++ ds)
none_append [] ds first second = second
none_append (c ∷ cs) ds first second = (first.0, none_append cs ds first.1 second)

both : (a b : List ℕ) → NoCharPasses is_unsafe a → NoCharPasses is_unsafe b → NoCharPasses is_unsafe (a ++ b)
both a b first second = (
  first.0 ++ second.0,
  encodes-append first.0 second.0 ∙ ap (λ (text : List ℕ). text ++ encode_utf8_all second.0) first.1 ∙ ap (λ (text : List ℕ). a ++ text) second.1,
  none_append first.0 second.0 first.2 second.2,
)

one : (c : ℕ) → NoCharPasses is_unsafe (safe_char c)
one c =
    elim (is_unsafe c) as (λ t. is_unsafe c ≡ t → NoCharPasses is_unsafe (if t then codes "\\u{" ++ digits 16 false c ++ codes "}" else encode_utf8 c)) [
      | true ↦ λ is. none_of_plain (codes "\\u{" ++ digits 16 false c ++ codes "}") (escape_plain c)
      | false ↦ λ is. (c ∷ [], append-nil (encode_utf8 c), (is, tt))
    ] refl

pub none_unsafe : (cs : List ℕ) → NoCharPasses is_unsafe (safe cs)
none_unsafe [] = ([], refl, tt)
none_unsafe (c ∷ cs) = both (safe_char c) (safe cs) (one c) (none_unsafe cs)
