-- What a seat has seen that gave the desk back: the desk's journal.
use Rattle.std.proofs.Common.{◌≡◌, ℕ, Result, List, [], length, sym, ap, subst, ◌∙◌}
use Rattle.std.proofs.lemmas.List.{length-reverse, reverse-reverse}
use Rattle.std.specs.Prelude.{Ok, Err, IfOk}
use Rattle.desk_core.specs.declared.entry.Entry.{Entry}
use Rattle.desk_core.specs.declared.made.Effect.{Effect}
use Rattle.desk_core.specs.declared.refusal.Refusal.{Refusal}
use Rattle.desk_core.specs.declared.reply.Reply.{Reply}
use Rattle.desk_core.specs.Past.{past}
use Rattle.hall.specs.Views.{seat_view}
use Rattle.hall.specs.Steps.{HasDesk, Seated, number_in, seen_in}

-- its past is that journal
pub reread : (rested : Seated) (seat most : ℕ) (journal : List Entry) → rested ≡ (seat_view seat (past journal) most, []) → past (seen_in rested) ≡ journal
reread rested seat most journal rests = ap (λ (me : Seated). past (seen_in me)) rests ∙ reverse-reverse journal

-- it is as long
pub as_long : (rested : Seated) (seat most : ℕ) (journal : List Entry) → rested ≡ (seat_view seat (past journal) most, []) → length (seen_in rested) ≡ length journal
as_long rested seat most journal rests = ap (λ (me : Seated). length (seen_in me)) rests ∙ length-reverse journal

-- the seat that has the desk is the view's own
pub own_desk : (waiting : Seated) (number most : ℕ) (history : List Entry) → HasDesk waiting number most history → HasDesk waiting (number_in waiting) most history
own_desk waiting number most history has = subst (λ n. HasDesk waiting n most history) (sym (ap number_in has.1)) has

-- what is told of the effect of a change that was made, or refused
pub effect_is : (P : Effect → Reply → Type 0) (effect made : Effect) (reply : Reply) → effect ≡ made → made.result ≡ Ok reply → P made reply → IfOk effect.result (P effect)
effect_is P effect made reply is done holds =
    subst (λ (e : Effect). IfOk e.result (P e)) (sym is) (subst (λ (r : Result Reply Refusal). IfOk r (P made)) (sym done) holds)

pub none_is : (P : Reply → Type 0) (effect : Effect) (refusal : Refusal) → effect.result ≡ Err refusal → IfOk effect.result P
none_is P effect refusal is = subst (λ (r : Result Reply Refusal). IfOk r P) (sym is) tt
