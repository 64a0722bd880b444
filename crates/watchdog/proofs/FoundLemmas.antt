-- What a round finds of the journal.
use Rattle.std.proofs.Common.{ℕ, zero, suc, ◌≡◌, ◌<◌, List, [], ◌∷◌, ◌++◌, length, take, refl, ap, sym, ◌∙◌, arith}
use Rattle.std.specs.Prelude.{Option, Some, None}
use Rattle.std.proofs.lemmas.List.{length-append}
use Rattle.desk_core.specs.declared.entry.Entry.{Entry}
use Rattle.desk_core.specs.Watch.{IsOlder}
use Rattle.tail.specs.Tail.{forgotten}

take_itself : (n : ℕ) (items : List Entry) → take n items ≡ take (length (take n items)) items
take_itself zero items = refl
take_itself (suc n) [] = refl
take_itself (suc n) (entry ∷ items) = ap (λ more. entry ∷ more) (take_itself n items)

-- the first of these entries, copied into an empty buffer
pub copied_next : (old copied items : List Entry) (room : ℕ) → old ≡ [] → copied ≡ old ++ take room items → copied ≡ take (length copied) items
copied_next old copied items room none is =
    let all = is ∙ ap (λ o. o ++ take room items) none in
    all ∙ (take_itself room items ∙ ap (λ n. take n items) (ap length (sym all)))

-- what is forgotten stays so
pub forgotten_on : (kept : Option ℕ) (place : ℕ) (older entries : List Entry) → IsOlder older entries → place < forgotten kept (length older)
    → place < forgotten kept (length entries)
forgotten_on None place older entries more gone = absurd (omega (arith, gone))
forgotten_on (Some kept) place older entries more gone = omega (arith, gone, ap length more.is, length-append more.newer older)
