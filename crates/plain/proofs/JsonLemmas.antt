-- A string of JSON as the one token of a text.
use Rattle.std.proofs.Common.{ℕ, ◌≡◌, List, [], ◌∷◌, ◌++◌, ap, ◌∙◌}
use Rattle.std.proofs.lemmas.List.{append-nil}
use Rattle.json.specs.Print.{print, print_from, quoted}
use Rattle.json.specs.Token.{Token, string}

-- its text
pub one_string : (before text : List ℕ) (tokens : List Token) → before ≡ [] → tokens ≡ string text ∷ []
    → before ++ print tokens ≡ quoted text
unfolding print_from
one_string before text tokens empty one =
    ap (λ front. front ++ print tokens) empty ∙ (ap (λ ts. print ts) one ∙ append-nil (quoted text))
