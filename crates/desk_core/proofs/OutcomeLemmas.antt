-- A change has one outcome.
use Rattle.std.proofs.Common.{◌≡◌, ◌⊎◌, ℕ, Option, List, ◌∷◌, Result, Ok, refl, ap, sym, ◌∙◌, inl, inr, arith}
use Rattle.desk_core.specs.declared.call.Call.{Call}
use Rattle.desk_core.specs.declared.entry.Entry.{Entry}
use Rattle.desk_core.specs.declared.refusal.Refusal.{Refusal}
use Rattle.desk_core.specs.declared.reply.Reply.{Reply}
use Rattle.desk_core.specs.Mutation.{IsAnswered, IsWant, entry_of}
use Rattle.desk_core.specs.Mutation.IsAnswered.{Taken, NotListed, BadRule, Full, NoMemory, NotStored}

pub one_outcome : {most seat : ℕ} {before after other : List Entry} {call : Option Call} {result another : Result Reply Refusal}
    → IsAnswered most seat before after call result → IsAnswered most seat before other call another
    → IsWant result ⊎ IsWant another ⊎ ((result ≡ another) × (after ≡ other))
one_outcome {seat = seat} {before = before} (Taken call reply lawful room is grown) (Taken _ reply_too lawful_too room_too is_too grown_too) =
    let same : reply ≡ reply_too = is ∙ sym is_too in
    inr (inr (ap Ok same, grown ∙ ap (λ r. entry_of seat call r ∷ before) same ∙ sym grown_too))
one_outcome (Taken call reply lawful room is grown) (BadRule _ unlawful stays) = absurd (unlawful lawful)
one_outcome (Taken call reply lawful room is grown) (Full _ lawful_too full stays) = absurd (omega (arith, room, full))
one_outcome (Taken call reply lawful room is grown) (NoMemory _ lawful_too room_too stays) = inr (inl (inl refl))
one_outcome (Taken call reply lawful room is grown) (NotStored _ lawful_too room_too stays) = inr (inl (inr refl))
one_outcome (NotListed stays) (NotListed stays_too) = inr (inr (refl, stays ∙ sym stays_too))
one_outcome (BadRule call unlawful stays) (Taken _ reply lawful room is grown) = absurd (unlawful lawful)
one_outcome (BadRule call unlawful stays) (BadRule _ unlawful_too stays_too) = inr (inr (refl, stays ∙ sym stays_too))
one_outcome (BadRule call unlawful stays) (Full _ lawful full stays_too) = absurd (unlawful lawful)
one_outcome (BadRule call unlawful stays) (NoMemory _ lawful room stays_too) = absurd (unlawful lawful)
one_outcome (BadRule call unlawful stays) (NotStored _ lawful room stays_too) = absurd (unlawful lawful)
one_outcome (Full call lawful full stays) (Taken _ reply lawful_too room is grown) = absurd (omega (arith, room, full))
one_outcome (Full call lawful full stays) (BadRule _ unlawful stays_too) = absurd (unlawful lawful)
one_outcome (Full call lawful full stays) (Full _ lawful_too full_too stays_too) = inr (inr (refl, stays ∙ sym stays_too))
one_outcome (Full call lawful full stays) (NoMemory _ lawful_too room stays_too) = inr (inl (inl refl))
one_outcome (Full call lawful full stays) (NotStored _ lawful_too room stays_too) = inr (inl (inr refl))
one_outcome (NoMemory call lawful room stays) other = inl (inl refl)
one_outcome (NotStored call lawful room stays) other = inl (inr refl)
