use Rattle.std.proofs.Common.{◌≡◌, ◌≢◌, ℕ, None, Some, List, [], ◌∷◌, ◌++◌, ◌+◌, ◌<◌, codes, length, take, get_or, Any, Result, Err, String, ap, sym, ◌∙◌}
use Rattle.std.proofs.lemmas.List.{take_more, get_or_default}
use Rattle.std.specs.Borrow.{Bor}
use Rattle.std.specs.Global.{Global}
use Rattle.std.specs.String.{string_bytes}
use Rattle.health_wire.specs.declared.serving.Serving.{Serving}
use Rattle.health_wire.specs.declared.serving.Serving.TheVariants.{Unknown, NotServing, ServiceUnknown, Serving as IsServing}
use Rattle.commands.specs.Service.{IsServiceWord, IsNoServiceWord, AreServiceWords}

-- a word with none of the endings gives no status
pub no_ending : (word : List ℕ) → ((name : List ℕ) → word ≢ name ++ codes "=serving") → ((name : List ℕ) → word ≢ name ++ codes "=not_serving")
    → ((name : List ℕ) → word ≢ name ++ codes "=unknown") → (name : List ℕ) (status : Serving) → IsServiceWord word name status → ⊥
no_ending word not_serving not_not_serving not_unknown name Unknown is =
    let end : is.end ≡ codes "=unknown" = (let same : Some (codes "=unknown") ≡ Some is.end = is.end_is in cc) in
    not_unknown name (is.parts ∙ ap (λ xs. name ++ xs) end)
no_ending word not_serving not_not_serving not_unknown name IsServing is =
    let end : is.end ≡ codes "=serving" = (let same : Some (codes "=serving") ≡ Some is.end = is.end_is in cc) in
    not_serving name (is.parts ∙ ap (λ xs. name ++ xs) end)
no_ending word not_serving not_not_serving not_unknown name NotServing is =
    let end : is.end ≡ codes "=not_serving" = (let same : Some (codes "=not_serving") ≡ Some is.end = is.end_is in cc) in
    not_not_serving name (is.parts ∙ ap (λ xs. name ++ xs) end)
no_ending word not_serving not_not_serving not_unknown name ServiceUnknown is = let none : None ≡ Some is.end = is.end_is in cc

-- one more word, and the pair that it gives
words_push : (words : List (Bor (List ℕ))) (pairs : List (String Global × Serving)) (word : Bor (List ℕ)) (pair : String Global × Serving)
    → AreServiceWords words pairs → IsServiceWord word.now (string_bytes pair.0) pair.1 → AreServiceWords (words ++ word ∷ []) (pairs ++ pair ∷ [])
words_push [] [] word pair are is = (is, tt)
words_push [] (p ∷ pairs) word pair are is = absurd are
words_push (w ∷ words) [] word pair are is = absurd are
words_push (w ∷ words) (p ∷ pairs) word pair are is = (are.0, words_push words pairs word pair are.1 is)

pub words_more : (words : List (Bor (List ℕ))) (i : ℕ) (default : Bor (List ℕ)) (pairs new : List (String Global × Serving))
    (pair : String Global × Serving) → i < length words → AreServiceWords (take i words) pairs
    → IsServiceWord (get_or words i default).now (string_bytes pair.0) pair.1 → new ≡ pairs ++ pair ∷ [] → AreServiceWords (take (i + 1) words) new
words_more words i default pairs new pair below are is pushed =
    rw (take_more words i default below, pushed) (words_push (take i words) pairs (get_or words i default) pair are is)

-- the word at a place is one of the words
pub any_at : (words : List (Bor (List ℕ))) (i : ℕ) (default : Bor (List ℕ)) → i < length words → IsNoServiceWord (get_or words i default).now → Any (λ word. IsNoServiceWord word.now) words
any_at words i default below none = (i, get_or words i default, below, get_or_default words i (get_or words i default) default below, none)

-- a result is one error
pub one_error : {T E : Type 0} (r : Result T E) (x y : E) → r ≡ Err x → r ≡ Err y → x ≡ y
one_error r x y is_x is_y = let same : Err x ≡ Err y = sym is_x ∙ is_y in cc
