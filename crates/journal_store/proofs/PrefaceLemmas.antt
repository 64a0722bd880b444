-- What is said of the records in front of the entries.
use Rattle.std.proofs.Common.{◌≡◌, ℕ, ◌+◌, ◌^◌, ◌<◌, ◌≤◌, Bool, true, false, not, List, [], ◌∷◌, ◌++◌, length, get_or, take, drop, Vec, Some, None, refl, sym, ◌∙◌, ap, subst, arith, inl, inr}
use Rattle.std.specs.Prelude.{All, codes, slice_get}
use Rattle.std.specs.Str.{bytes_eq}
use Rattle.std.specs.Int.{w32, w64, to_le_bytes}
use Rattle.std.specs.declared.alloc.Global.{Global}
use Rattle.std.proofs.lemmas.Bool.{cases_lt}
use Rattle.std.proofs.lemmas.Option.{slice_get-get_or, slice_get_within, get_or_from_slice_get}
use Rattle.std.proofs.lemmas.List.{take-append-drop, take_all, take_more, length-map, length-take, map-append, get_or-map}
use Rattle.std.proofs.lemmas.List.Elements.{All-map, All-cons, All-weaker}
use Rattle.std.proofs.lemmas.Slice.Eq.{bytes_eq-Decides}
use Rattle.record_log.specs.Log.{texts}
use Rattle.desk_core.specs.Catalogue.{IsCatalogue}
use Rattle.journal_store.specs.Preface.{Front, IsFront, title_of, preface_of, HasNoTitle, IsCutShort, BeginsWith}

-- the two parts of a list
pub two_parts : (l a b : List ℕ) (n : ℕ) → a ≡ take n l → b ≡ drop n l → l ≡ a ++ b
two_parts l a b n front back = sym (take-append-drop n l) ∙ ap (λ (x : List ℕ). x ++ drop n l) (sym front) ∙ ap (λ (x : List ℕ). a ++ x) (sym back)

pub one_left : (l : List ℕ) → length l ≡ 1 → l ≡ get_or l 0 0 ∷ []
one_left [] is = absurd (omega (arith, is))
one_left (x ∷ []) is = refl
one_left (x ∷ y ∷ l) is = absurd (omega (arith, is))

-- a first record, by its parts
pub title_parts : (bytes text after_text numbers after_numbers condensed after : List ℕ) (x y : ℕ) → bytes ≡ text ++ after_text → after_text ≡ numbers ++ after_numbers → after_numbers ≡ condensed ++ after → length after ≡ 1
    → text ≡ codes "healthd journal 1" → numbers ≡ to_le_bytes w64 x → condensed ≡ to_le_bytes w32 y → bytes ≡ title_of x y (get_or after 0 0)
title_parts bytes text after_text numbers after_numbers condensed after x y first second third len is_text is_numbers is_condensed =
    first ∙ ap (λ (l : List ℕ). l ++ after_text) is_text ∙ ap (λ (l : List ℕ). codes "healthd journal 1" ++ l) rest
  where
    rest : after_text ≡ to_le_bytes w64 x ++ (to_le_bytes w32 y ++ (get_or after 0 0 ∷ []))
    rest = second ∙ ap (λ (l : List ℕ). l ++ after_numbers) is_numbers ∙ ap (λ (l : List ℕ). to_le_bytes w64 x ++ l) (third ∙ ap (λ (l : List ℕ). l ++ after) is_condensed ∙ ap (λ (l : List ℕ). to_le_bytes w32 y ++ l) (one_left after len))

-- a text that is the one in front of the numbers
pub same_text : (text those : List ℕ) → false ≡ not (bytes_eq text those) → text ≡ those
same_text text those same = (bytes_eq-Decides text those).0 (of (bytes_eq text those) same)
  where
    of : (b : Bool) → false ≡ not b → b ≡ true
    of true is = refl
    of false is = absurd cc

-- names that are short, as they stand in memory
pub short_texts : (names : List (Vec ℕ Global)) → All (λ bytes. length bytes.items < 256) names → All (λ name. length name < 256) (texts names)
short_texts names short = All-map (λ (name : List ℕ). length name < 256) (λ (bytes : Vec ℕ Global). bytes.items) names short

pub texts_short : (names : List (Vec ℕ Global)) → All (λ name. length name < 256) (texts names) → All (λ bytes. length bytes.items < 256) names
texts_short names short k d within =
    subst (λ (name : List ℕ). length name < 256) (get_or-map (λ (bytes : Vec ℕ Global). bytes.items) names k d d.items within)
    (short k d.items (omega (arith, within, length-map names (λ (bytes : Vec ℕ Global). bytes.items))))

-- the records of a preface are short
pub preface_short : (records : List (Vec ℕ Global)) (front : Front) → texts records ≡ preface_of front → IsFront front → All (λ bytes. length bytes.items < 256) records
preface_short records front is known =
    texts_short records (subst (All (λ name. length name < 256)) (sym is)
    (All-cons (λ (name : List ℕ). length name < 256) (title_of front.base front.condensed (length front.names)) front.names (omega arith) known.short))

module _ (found : List (Vec ℕ Global)) (first : Vec ℕ Global) (records : List (Vec ℕ Global)) (bytes : List ℕ) (parts : found ≡ first ∷ records) (same : bytes ≡ first.items) where
  -- the first record is none of a preface
  pub no_title : ((base condensed names : ℕ) → names ≤ 16 → bytes ≡ title_of base condensed names → ⊥) → HasNoTitle (texts found)
  no_title none = subst (λ (f : List (Vec ℕ Global)). HasNoTitle (texts f)) (sym parts) (λ base condensed names few is. none base condensed names few (same ∙ is))

  module _ (base condensed names : ℕ) (titled : bytes ≡ title_of base condensed names) where
    -- it is one, and there are fewer names
    pub cut_short : length records < names → IsCutShort (texts found)
    cut_short less = record {
      base = base;
      condensed = condensed;
      names = names;
      records = texts records;
      begins = ap texts parts ∙ ap (λ (t : List ℕ). t ∷ texts records) (sym same ∙ titled);
      missing = omega (arith, less, length-map records (λ (e : Vec ℕ Global). e.items));
    }

    module _ (copies : List (Vec ℕ Global)) (copied : texts copies ≡ texts (take names records)) (enough : names ≤ length records) where
      as_many : length (texts copies) ≡ names
      as_many = ap length copied ∙ length-map (take names records) (λ (e : Vec ℕ Global). e.items) ∙ omega (arith, enough, length-take names records)

      abbrev front : Front
      front = record { names = texts copies; base = base; condensed = condensed }

      pub is_front : names ≤ 16 → All (λ bytes. length bytes.items < 256) copies → base < 2 ^ 64 → condensed < 2 ^ 32 → IsFront front
      is_front few short wide narrow = record { few = omega (arith, as_many, few); short = short_texts copies short; base = wide; condensed = narrow }

      pub begins_with : IsFront front → BeginsWith front (texts found) (names + 1)
      begins_with is = record {
        is = is;
        behind = texts (drop names records);
        whole = ap texts parts ∙ ap (λ (t : List ℕ). t ∷ texts records) (sym same ∙ titled ∙ ap (λ (n : ℕ). title_of base condensed n) (sym as_many)) ∙ ap (λ (l : List (List ℕ)). title_of base condensed (length (texts copies)) ∷ l) split;
        count = omega (arith, as_many);
      }
        where
          split : texts records ≡ texts copies ++ texts (drop names records)
          split = ap texts (sym (take-append-drop names records)) ∙ map-append (λ (e : Vec ℕ Global). e.items) (take names records) (drop names records) ∙ ap (λ (l : List (List ℕ)). l ++ texts (drop names records)) (sym copied)

-- one name more
module _ (catalogue : List (List ℕ)) (i : ℕ) where
  pub no_name : slice_get catalogue i ≡ None → take i catalogue ≡ take (i + 1) catalogue
  no_name none = elim (cases_lt i (length catalogue)) [
    | inl lt ↦ let some = slice_get-get_or catalogue i [] lt in absurd cc
    | inr le ↦ take_all i catalogue le ∙ sym (take_all (i + 1) catalogue (omega (arith, le)))
  ]

  pub one_name : (name : List ℕ) → slice_get catalogue i ≡ Some name → take i catalogue ++ name ∷ [] ≡ take (i + 1) catalogue
  one_name name some =
      ap (λ (n : List ℕ). take i catalogue ++ n ∷ []) (sym (get_or_from_slice_get catalogue i name [] some)) ∙ sym (take_more catalogue i [] (slice_get_within catalogue i name some))

-- the names of a catalogue
pub catalogue_front : (names : List (Vec ℕ Global)) (catalogue : List (List ℕ)) → texts names ≡ catalogue → IsCatalogue catalogue → IsFront (record { names = texts names; base = 0; condensed = 0 })
catalogue_front names catalogue is known = record {
  few = omega (arith, known.few, ap length is);
  short = subst (All (λ name. length name < 256)) (sym is) (All-weaker (λ (name : List ℕ). length name ≤ 128) (λ (name : List ℕ). length name < 256) (λ name short. omega (arith, short)) catalogue known.short);
  base = omega arith;
  condensed = omega arith;
}

-- one text more
pub text_pushed : (old : List (Vec ℕ Global)) (one : Vec ℕ Global) (new : List (Vec ℕ Global)) → new ≡ old ++ one ∷ [] → texts new ≡ texts old ++ one.items ∷ []
text_pushed old one new is = ap texts is ∙ map-append (λ (e : Vec ℕ Global). e.items) old (one ∷ [])
