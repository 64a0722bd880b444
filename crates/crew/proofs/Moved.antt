-- Loops that move what an iterator yields to the end of a list: what both hold together stays.
use Rattle.std.proofs.Common.{◌≡◌, ℕ, ◌+◌, ◌≤◌, List, [], ◌∷◌, ◌++◌, map, length, sym, ap, subst, ◌∙◌, append_assoc, arith}
use Rattle.std.proofs.lemmas.List.{append-nil, map-append, nil_from_length, length-map}
use Rattle.std.specs.Prelude.{Result, Ok, Option, Some, Vec, vec_len, if◌then◌else◌}
use Rattle.std.specs.Result.{is_ok}
use Rattle.std.specs.Global.{Global}
use Rattle.std.specs.declared.vec.IntoIter.{IntoIter}
use Rattle.std.specs.Vec.Iter.{into_iter_items, into_iter_len, into_iter_steps}

-- what a call did that was unwrapped
pub unwrapped : {T E X : Type 0} (result : Result T E) (value : T) (now done same : X) → result ≡ Ok value → now ≡ (if is_ok result then done else same) → now ≡ done
unwrapped result value now done same is now_is = subst (λ r. now ≡ (if is_ok r then done else same)) is now_is

-- an iterator that is at its end has nothing left
pub none_left : {X : Type 0} (it : IntoIter X Global) → into_iter_len it ≡ 0 → into_iter_items it ≡ []
none_left it none = nil_from_length (into_iter_items it) (sym it.rest.ok.0 ∙ none)

-- one element more was moved, of which `told` tells what comes to the list
pub moved : {X Y : Type 0} (told : List X → List Y) (all got got' : List Y) (rest rest' : List X) (x : X) (y : Y) → told (x ∷ rest') ≡ y ∷ told rest'
    → all ≡ got ++ told rest → rest ≡ x ∷ rest' → got' ≡ got ++ y ∷ [] → all ≡ got' ++ told rest'
moved told all got got' rest rest' x y tells is next pushed =
    is ∙ (ap (λ r. got ++ told r) next ∙ (ap (λ r. got ++ r) tells ∙ (sym (append_assoc got (y ∷ []) (told rest')) ∙ ap (λ g. g ++ told rest') (sym pushed))))

-- all were moved
pub all_moved : {X Y : Type 0} (told : List X → List Y) (all got : List Y) (it : IntoIter X Global) → told [] ≡ [] → all ≡ got ++ told (into_iter_items it) → into_iter_len it ≡ 0
    → got ≡ all
all_moved told all got it tells is none = sym (is ∙ (ap (λ r. got ++ r) (ap told (none_left it none) ∙ tells) ∙ append-nil got))

-- the same where `v` tells of each element of the list
pub moved_as : {X Y : Type 0} (v : X → Y) (all : List Y) (got got' : List X) (rest rest' : List Y) (x : X) → all ≡ map v got ++ rest → rest ≡ v x ∷ rest' → got' ≡ got ++ x ∷ []
    → all ≡ map v got' ++ rest'
moved_as v all got got' rest rest' x is next pushed =
    is ∙ (ap (λ r. map v got ++ r) next ∙ (sym (append_assoc (map v got) (v x ∷ []) rest') ∙ ap (λ g. g ++ rest') (sym (ap (map v) pushed ∙ map-append v got (x ∷ [])))))

pub all_moved_as : {X Y : Type 0} (v : X → Y) (all : List Y) (got : List X) (it : IntoIter Y Global) → all ≡ map v got ++ into_iter_items it → into_iter_len it ≡ 0 → map v got ≡ all
all_moved_as v all got it is none = sym (is ∙ (ap (λ r. map v got ++ r) (none_left it none) ∙ append-nil (map v got)))

-- what an iterator yielded that had something left
pub yielded : {X : Type 0} (it it' : IntoIter X Global) (result : Option X) (x : X) → result ≡ Some x → into_iter_steps it result it'
    → (into_iter_items it ≡ x ∷ into_iter_items it') × (into_iter_len it' + 1 ≡ into_iter_len it)
yielded it it' result x is steps = subst (λ r. into_iter_steps it r it') is steps

-- there is room for the rest still, and for more behind it
pub room_left : (got got' rest rest' room room' : ℕ) → got + rest ≤ room → rest' + 1 ≡ rest → got' ≡ got + 1 → room ≤ room' → got' + rest' ≤ room'
room_left got got' rest rest' room room' fits next pushed grows = omega arith

pub room_left_behind : (got got' rest rest' more room room' : ℕ) → got + (rest + more) ≤ room → rest' + 1 ≡ rest → got' ≡ got + 1 → room ≤ room' → got' + (rest' + more) ≤ room'
room_left_behind got got' rest rest' more room room' fits next pushed grows = omega arith

pub grown : (least room room' : ℕ) → least ≤ room → room ≤ room' → least ≤ room'
grown least room room' fits grows = omega arith

-- two vectors, of which one tells of the other's elements, have as many
pub as_many : {X Y : Type 0} (v : X → Y) (xs : Vec X Global) (ys : Vec Y Global) → map v xs.items ≡ ys.items → vec_len xs ≡ vec_len ys
as_many v xs ys told = xs.ok.0 ∙ (sym (length-map xs.items v) ∙ (ap length told ∙ sym ys.ok.0))
