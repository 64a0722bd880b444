-- How bytes are compared with the first of some entries.
use Rattle.std.proofs.Common.{◌≡◌, ℕ, ◌+◌, ◌<◌, List, [], ◌∷◌, ◌++◌, length, get_or, take, drop, Vec, sym, ◌∙◌, ap, subst, take-append-drop}
use Rattle.std.specs.declared.alloc.Global.{Global}
use Rattle.std.proofs.lemmas.List.{map_more, take-map, append-nil}
use Rattle.record_log.specs.Log.{block, blocks, texts}
use Rattle.record_log.proofs.ReadingLemmas.{IsReadUpTo, reads_on}

-- all of the bytes were compared
pub ended : (bytes rest : List ℕ) (all : List (List ℕ)) (n : ℕ) → IsReadUpTo bytes (take n all) rest → rest ≡ []
    → (front : List (List ℕ)) × (back : List (List ℕ)) × (all ≡ front ++ back) × (bytes ≡ blocks front)
ended bytes rest all n read none = (take n all, drop n all, sym (take-append-drop n all), read ∙ ap (λ l. blocks (take n all) ++ l) none ∙ append-nil (blocks (take n all)))

-- one entry more
pub one_more : (bytes : List ℕ) (entries : List (Vec ℕ Global)) (i : ℕ) (entry : Vec ℕ Global) (rest found behind : List ℕ) → i < length entries → entry ≡ get_or entries i entry
    → IsReadUpTo bytes (take i (texts entries)) rest → rest ≡ block found ++ behind → found ≡ entry.items → IsReadUpTo bytes (take (i + 1) (texts entries)) behind
one_more bytes entries i entry rest found behind inside is read block_is same =
    subst (λ l. IsReadUpTo bytes l behind) (sym more) (reads_on bytes (take i (texts entries)) rest found behind read block_is)
  where
    item : found ≡ (get_or entries i entry).items
    item = same ∙ ap (λ e. e.items) is

    more : take (i + 1) (texts entries) ≡ take i (texts entries) ++ found ∷ []
    more = take-map (λ e. e.items) (i + 1) entries ∙ map_more (λ e. e.items) entries i entry inside
        ∙ ap (λ l. l ++ (get_or entries i entry).items ∷ []) (sym (take-map (λ e. e.items) i entries)) ∙ ap (λ (l : List ℕ). take i (texts entries) ++ l ∷ []) (sym item)
