-- The list of names with their statuses.
use Rattle.std.proofs.Common.{ℕ, suc, ◌≡◌, ◌+◌, ◌≤◌, List, [], ◌∷◌, ◌++◌, map, length, drop, sym, refl, ap, ◌∙◌, arith, ◌==◌, Bool, true, false, true≢false}
use Rattle.std.proofs.lemmas.Bool.{eqb-true}
use Rattle.std.specs.Prelude.{Option, Some, None, slice_get, Result, Ok, Err, IfOk, OnErr, is_ok, ◌≢◌}
use Rattle.std.specs.List.{join_by}
use Rattle.std.proofs.lemmas.List.{append-nil, append_assoc, drop_all, map-append}
use Rattle.std.proofs.lemmas.List.Folds.{flat_map-map}
use Rattle.std.proofs.lemmas.Option.{slice_get_within, get_or_from_slice_get}
use Rattle.std.proofs.Math.Seq.{drop-cons}
use Rattle.health_wire.specs.declared.serving.Serving.{Serving}
use Rattle.control.specs.declared.answer.Answer.{Answer}
use Rattle.control.specs.declared.answer.Answer.TheVariants.{OutOfMemory, Skipped}
use Rattle.control.specs.Text.{IsTold, listed, listed_from, short_text}
use Rattle.control.specs.Text.IsTold.{CutShort}

-- joined words are the same as texts or as bytes
pub joined : {X : Type 0} (f : X → List ℕ) (separator : List ℕ) (xs : List X) → join_by f separator xs ≡ join_by (λ word. word) separator (map f xs)
joined f separator [] = refl
joined f separator (x ∷ xs) = ap (λ rest. f x ++ rest) (sym (flat_map-map (λ word. separator ++ word) f xs))

-- one name more is listed
one_more : (statuses : ℕ → Option Serving) (slot : ℕ) (names done : List (List ℕ)) (name : List ℕ) → slice_get names slot ≡ Some name
    → done ++ listed_from statuses slot (drop slot names) ≡ (done ++ listed name (statuses slot) ∷ []) ++ listed_from statuses (slot + 1) (drop (slot + 1) names)
one_more statuses slot names done name is =
    let next : suc slot ≡ slot + 1 = omega arith in
    ap (λ rest. done ++ listed_from statuses slot rest) (drop-cons names slot [] (slice_get_within names slot name is)
    ∙ (ap (λ one. one ∷ drop (suc slot) names) (get_or_from_slice_get names slot name [] is) ∙ ap (λ n. name ∷ drop n names) next))
    ∙ sym (append_assoc done (listed name (statuses slot) ∷ []) (listed_from statuses (slot + 1) (drop (slot + 1) names)))

-- all names are listed
no_more : (statuses : ℕ → Option Serving) (slot : ℕ) (names done : List (List ℕ)) → length names ≤ slot → done ++ listed_from statuses slot (drop slot names) ≡ done ++ []
no_more statuses slot names done all = ap (λ rest. done ++ listed_from statuses slot rest) (drop_all slot names all)

-- a word more is written
pub pushed : {X : Type 0} (f : X → List ℕ) (statuses : ℕ → Option Serving) (slot : ℕ) (names whole : List (List ℕ)) (words more : List X) (word : X)
    (name : List ℕ) (status : Option Serving) → whole ≡ map f words ++ listed_from statuses slot (drop slot names) → slice_get names slot ≡ Some name
    → status ≡ statuses slot → f word ≡ listed name status → more ≡ words ++ word ∷ []
    → whole ≡ map f more ++ listed_from statuses (slot + 1) (drop (slot + 1) names)
pushed f statuses slot names whole words more word name status so_far named told text pushed_ =
    let last : f word ≡ listed name (statuses slot) = text ∙ ap (listed name) told in
    let front : map f words ++ listed name (statuses slot) ∷ [] ≡ map f more =
    sym (ap (map f) pushed_ ∙ (map-append f words (word ∷ []) ∙ ap (λ one. map f words ++ one ∷ []) last)) in
    so_far ∙ (one_more statuses slot names (map f words) name named ∙ ap (λ done. done ++ listed_from statuses (slot + 1) (drop (slot + 1) names)) front)

-- all words are written
pub all_written : {X : Type 0} (f : X → List ℕ) (statuses : ℕ → Option Serving) (slot : ℕ) (names whole : List (List ℕ)) (words : List X)
    → whole ≡ map f words ++ listed_from statuses slot (drop slot names) → length names ≤ slot → whole ≡ map f words
all_written f statuses slot names whole words so_far all = so_far ∙ (no_more statuses slot names (map f words) all ∙ append-nil (map f words))

-- the text of all names
pub whole_text : {X T E : Type 0} (f : X → List ℕ) (bytes : T → List ℕ) (words : List X) (listed : List (List ℕ)) (separator : List ℕ) (made : Result T E)
    → IfOk made (λ text. bytes text ≡ join_by f separator words) → listed ≡ map f words → IfOk made (λ text. bytes text ≡ join_by (λ word. word) separator listed)
whole_text f bytes words listed separator (Ok text) is all = is ∙ (joined f separator words ∙ ap (join_by (λ word. word) separator) (sym all))
whole_text f bytes words listed separator (Err error) is all = is

-- a text that was found empty
pub found_empty : (text : List ℕ) (is_empty : Bool) → is_empty ≡ (length text == 0) → is_empty ≡ true → text ≡ []
found_empty [] is_empty tells found = refl
found_empty (c ∷ text) is_empty tells found = absurd (omega (arith, eqb-true (length (c ∷ text)) 0 (sym tells ∙ found)))

-- a text that was found to have a byte
pub found_some : (text line : List ℕ) (is_empty : Bool) → line ≡ text → is_empty ≡ (length text == 0) → is_empty ≡ false → line ≢ []
found_some [] line is_empty same tells found none = absurd (true≢false (sym tells ∙ found))
found_some (c ∷ text) line is_empty same tells found none = let no : ⊥ = cc in absurd no

-- an answer that could not be written where there was room for 32 bytes
pub was_long : {T E : Type 0} (answer : Answer) (written : Result T E) (is_written : Bool) (room : Type 0) → is_written ≡ is_ok written → is_written ≡ false
    → OnErr written (room → (short_text answer ≡ None) × (answer ≢ Skipped)) → room → IsTold answer OutOfMemory
was_long answer (Ok done) is_written room tells failed long enough = absurd (true≢false (sym tells ∙ failed))
was_long answer (Err error) is_written room tells failed long enough = CutShort (long enough).0 (long enough).1
