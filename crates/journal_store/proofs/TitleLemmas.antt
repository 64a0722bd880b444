-- A preface that is written is read back.
use Rattle.std.proofs.Common.{◌≡◌, ℕ, ◌^◌, ◌<◌, List, ◌∷◌, ◌++◌, length, get_or, take, drop, refl, sym, ◌∙◌, ap, arith, length-append}
use Rattle.std.specs.Int.{w32, w64, from_le_bytes}
use Rattle.std.proofs.lemmas.List.{append_cancel_left, take_at}
use Rattle.std.proofs.lemmas.Nat.{from_le_bytes-to_le_bytes_4, from_le_bytes-to_le_bytes_8}
use Rattle.journal_store.specs.Preface.{Front, IsFront, HasNoTitle, IsCutShort, preface_of, title_of}

-- the numbers of a first record
names_is : (a b n x y m : ℕ) → title_of a b n ≡ title_of x y m → n ≡ m
names_is a b n x y m is = ap (λ (l : List ℕ). get_or l 29 0) is

base_is : (a b n x y m : ℕ) → a < 2 ^ 64 → x < 2 ^ 64 → title_of a b n ≡ title_of x y m → a ≡ x
base_is a b n x y m wide wider is = sym (from_le_bytes-to_le_bytes_8 a wide) ∙ ap (λ (l : List ℕ). from_le_bytes w64 (take 8 (drop 17 l))) is ∙ from_le_bytes-to_le_bytes_8 x wider

condensed_is : (a b n x y m : ℕ) → b < 2 ^ 32 → y < 2 ^ 32 → title_of a b n ≡ title_of x y m → b ≡ y
condensed_is a b n x y m wide wider is = sym (from_le_bytes-to_le_bytes_4 b wide) ∙ ap (λ (l : List ℕ). from_le_bytes w32 (take 4 (drop 25 l))) is ∙ from_le_bytes-to_le_bytes_4 y wider

-- the first of two lists
first_is : (t u : List ℕ) (l m : List (List ℕ)) → t ∷ l ≡ u ∷ m → t ≡ u
first_is t u l m is = cc

rest_is : (t u : List ℕ) (l m : List (List ℕ)) → t ∷ l ≡ u ∷ m → l ≡ m
rest_is t u l m is = cc

abbrev made : List (List ℕ) → ℕ → ℕ → Front
made names base condensed = record { names = names; base = base; condensed = condensed }

-- lists that are as long and go on alike
pub fronts_is : (l m more rest : List (List ℕ)) → length l ≡ length m → l ++ more ≡ m ++ rest → l ≡ m
fronts_is l m more rest len is = sym (take_at l more (length l) refl) ∙ ap (λ (x : List (List ℕ)). take (length l) x) is ∙ take_at m rest (length l) (sym len)

pub one_front : (front other : Front) (more rest : List (List ℕ)) → IsFront front → IsFront other → preface_of front ++ more ≡ preface_of other ++ rest → (front ≡ other) × (more ≡ rest)
one_front front other more rest known also is =
    let title : title_of front.base front.condensed (length front.names) ≡ title_of other.base other.condensed (length other.names) = first_is _ _ (front.names ++ more) (other.names ++ rest) is in
    let behind : front.names ++ more ≡ other.names ++ rest = rest_is (title_of front.base front.condensed (length front.names)) (title_of other.base other.condensed (length other.names)) _ _ is in
    let names : front.names ≡ other.names = fronts_is front.names other.names more rest (names_is _ _ _ _ _ _ title) behind in
    let base : front.base ≡ other.base = base_is _ _ _ _ _ _ known.base also.base title in
    let condensed : front.condensed ≡ other.condensed = condensed_is _ _ _ _ _ _ known.condensed also.condensed title in (
      ap (λ (n : List (List ℕ)). made n front.base front.condensed) names ∙ ap (λ (n : ℕ). made other.names n front.condensed) base ∙ ap (λ (n : ℕ). made other.names other.base n) condensed,
      append_cancel_left front.names more rest (behind ∙ ap (λ (l : List (List ℕ)). l ++ rest) (sym names)),
    )

pub titled : (front : Front) (more : List (List ℕ)) → IsFront front → HasNoTitle (preface_of front ++ more) → ⊥
titled front more known none = none front.base front.condensed (length front.names) known.few refl

pub not_cut : (front : Front) (more : List (List ℕ)) → IsFront front → IsCutShort (preface_of front ++ more) → ⊥
not_cut front more known cut =
    let title : title_of front.base front.condensed (length front.names) ≡ title_of cut.base cut.condensed cut.names = first_is _ _ (front.names ++ more) cut.records cut.begins in
    let behind : front.names ++ more ≡ cut.records = rest_is (title_of front.base front.condensed (length front.names)) (title_of cut.base cut.condensed cut.names) _ _ cut.begins in
    omega (arith, names_is _ _ _ _ _ _ title, ap length behind, length-append front.names more, cut.missing)
