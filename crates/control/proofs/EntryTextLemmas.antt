-- The names of a mask, one slot more at a time.
use Rattle.std.proofs.Common.{◌≡◌, ℕ, ◌+◌, Bool, List, [], ◌++◌, if◌then◌else◌, refl, sym, ap, add-one, ◌∙◌}
use Rattle.std.specs.Prelude.{codes}
use Rattle.std.proofs.lemmas.List.{append_assoc}
use Rattle.desk_core.specs.Status.{has_slot}
use Rattle.control.specs.EntryText.{mask_text}
use Rattle.control.specs.NameText.{slot_word}

pub mask_text-none : (names : List (List ℕ)) (mask : ℕ) → mask_text names mask 0 ≡ []
unfolding mask_text
mask_text-none names mask = refl

pub mask_text-more : (names : List (List ℕ)) (mask n : ℕ) → mask_text names mask (n + 1) ≡ mask_text names mask n ++ (if has_slot mask n then codes " " ++ slot_word names n else [])
unfolding mask_text
mask_text-more names mask n = rw add-one refl

-- one slot more is written, or passed over
pub mask_pushed : (names : List (List ℕ)) (mask n : ℕ) (front old new : List ℕ) (b : Bool) → has_slot mask n ≡ b → old ≡ front ++ mask_text names mask n
    → new ≡ old ++ (if b then codes " " ++ slot_word names n else []) → new ≡ front ++ mask_text names mask (n + 1)
mask_pushed names mask n front old new b is old_is new_is =
    new_is ∙ ap (λ o. o ++ (if b then codes " " ++ slot_word names n else [])) old_is
    ∙ append_assoc front (mask_text names mask n) (if b then codes " " ++ slot_word names n else [])
    ∙ ap (λ c. front ++ (mask_text names mask n ++ (if c then codes " " ++ slot_word names n else []))) (sym is)
    ∙ ap (λ t. front ++ t) (sym (mask_text-more names mask n))
