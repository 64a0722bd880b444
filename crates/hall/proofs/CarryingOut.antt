-- What seats keep that look, and those that are asked for changes, one after the other.
use Rattle.std.proofs.Common.{◌≡◌, ℕ, zero, suc, ◌≤◌, ◌<◌, get_or, List, [], ◌∷◌, ◌++◌, length, sym, refl, ap, ◌∙◌, arith, length-append}
use Rattle.std.specs.Prelude.{Option, Some, None, Result, Ok, Err}
use Rattle.std.proofs.lemmas.List.{append_assoc, reverse-append}
use Rattle.desk_core.specs.declared.call.Call.{Call}
use Rattle.desk_core.specs.declared.entry.Entry.{Entry}
use Rattle.desk_core.specs.declared.refusal.Refusal.{Refusal}
use Rattle.desk_core.specs.declared.refusal.Refusal.TheVariants as refusals
use Rattle.desk_core.specs.declared.reply.Reply.{Reply}
use Rattle.desk_core.specs.Mutation.{IsAnswered, Taken, NotListed, BadRule, Full, NoMemory, NotStored, AreAnswered, Ends, Then, entry_of}
use Rattle.desk_core.specs.Past.{past}
use Rattle.desk_core.specs.Seats.{calls_by}
use Rattle.desk_core.specs.Watch.{IsOlder}
use Rattle.hall.specs.CarriedOut.{HasCarriedOut, replied}
use Rattle.hall.specs.Looking.{HasLooked}
use Rattle.hall.specs.Seats.{HallState, SeatState, IsOf, IsCarriedOut, own_calls, with_seen}
use Rattle.hall.proofs.LookingLemmas.{older_on}
use Rattle.hall.proofs.Views.{own_call}

-- one change more
pub meets_more : (old between new : SeatState) (calls : List (Option Call)) (results : List (Result Reply Refusal)) (call : Option Call) (result : Result Reply Refusal)
    → AreAnswered IsCarriedOut old between calls results → IsCarriedOut between new call result → AreAnswered IsCarriedOut old new (calls ++ call ∷ []) (results ++ result ∷ [])
meets_more old between new calls results call result (Ends seat) met = Then _ _ _ _ _ _ _ met (Ends new)
meets_more old between new calls results call result (Then old' first between' call' result' calls' results' met' rest) met =
    Then old first new call' result' _ _ met' (meets_more first between new calls' results' call result rest met)

-- a seat's own entries in a history after a change
answered_own : (most seat : ℕ) (before after : List Entry) (call : Option Call) (result : Result Reply Refusal) → IsAnswered most seat before after call result
    → calls_by after seat ≡ past (replied seat (call ∷ []) (result ∷ [])) ++ calls_by before seat
answered_own most seat before after _ _ (Taken call reply lawful room reply_is is) = ap (λ es. calls_by es seat) is ∙ own_call (entry_of seat call reply) before seat refl
answered_own most seat before after _ _ (NotListed same) = ap (λ es. calls_by es seat) same
answered_own most seat before after _ _ (BadRule call unlawful same) = ap (λ es. calls_by es seat) same
answered_own most seat before after _ _ (Full call lawful full same) = ap (λ es. calls_by es seat) same
answered_own most seat before after _ _ (NoMemory call lawful room same) = ap (λ es. calls_by es seat) same
answered_own most seat before after _ _ (NotStored call lawful room same) = ap (λ es. calls_by es seat) same

met_own : (old new : SeatState) (call : Option Call) (result : Result Reply Refusal) → IsCarriedOut old new call result
    → own_calls new ≡ past (replied old.number (call ∷ []) (result ∷ [])) ++ own_calls old
met_own old new call result met =
    ap (λ (seat : SeatState). calls_by new.seen seat.number) met.same
    ∙ (answered_own old.most old.number met.before new.seen call result met.answer ∙ ap (λ es. past (replied old.number (call ∷ []) (result ∷ [])) ++ es) met.own)

-- the first change's entry stands before those of the others
replied_first : (seat : ℕ) (call : Option Call) (result : Result Reply Refusal) (calls : List (Option Call)) (results : List (Result Reply Refusal))
    → replied seat (call ∷ calls) (result ∷ results) ≡ replied seat (call ∷ []) (result ∷ []) ++ replied seat calls results
replied_first seat (Some call) (Ok reply) calls results = refl
replied_first seat None (Ok reply) calls results = refl
replied_first seat (Some call) (Err refusal) calls results = refl
replied_first seat None (Err refusal) calls results = refl

-- the seat that met changes is the same, but for what it has seen
pub are_same : (old new : SeatState) (calls : List (Option Call)) (results : List (Result Reply Refusal)) → AreAnswered IsCarriedOut old new calls results
    → new ≡ with_seen old new.seen
are_same old new calls results (Ends seat) = refl
are_same old new calls results (Then old' between new' call result calls' results' met rest) =
    are_same between new calls' results' rest ∙ ap (λ (seat : SeatState). with_seen seat new.seen) met.same

-- a seat's own entries after changes
pub are_own : (old new : SeatState) (calls : List (Option Call)) (results : List (Result Reply Refusal)) → AreAnswered IsCarriedOut old new calls results
    → own_calls new ≡ past (replied old.number calls results) ++ own_calls old
are_own old new calls results (Ends seat) = refl
are_own old new calls results (Then old' between new' call result calls' results' met rest) =
    let number : between.number ≡ old.number = ap (λ (seat : SeatState). seat.number) met.same in
    let here : List Entry = replied old.number (call ∷ []) (result ∷ []) in
    let there : List Entry = replied old.number calls' results' in
    are_own between new calls' results' rest
    ∙ (ap (λ n. past (replied n calls' results') ++ own_calls between) number
    ∙ (ap (λ es. past there ++ es) (met_own old between call result met)
    ∙ (sym (append_assoc (past there) (past here) (own_calls old))
    ∙ ap (λ es. es ++ own_calls old) (sym (ap past (replied_first old.number call result calls' results') ∙ reverse-append here there)))))

-- what a seat had seen begins what it has seen
answered_begins : (most seat : ℕ) (before after : List Entry) (call : Option Call) (result : Result Reply Refusal) → IsAnswered most seat before after call result → IsOlder before after
answered_begins most seat before after _ _ (Taken call reply lawful room reply_is is) = record { newer = entry_of seat call reply ∷ []; is = is }
answered_begins most seat before after _ _ (NotListed same) = record { newer = []; is = same }
answered_begins most seat before after _ _ (BadRule call unlawful same) = record { newer = []; is = same }
answered_begins most seat before after _ _ (Full call lawful full same) = record { newer = []; is = same }
answered_begins most seat before after _ _ (NoMemory call lawful room same) = record { newer = []; is = same }
answered_begins most seat before after _ _ (NotStored call lawful room same) = record { newer = []; is = same }

met_begins : (old new : SeatState) (call : Option Call) (result : Result Reply Refusal) → IsCarriedOut old new call result → IsOlder old.seen new.seen
met_begins old new call result met = older_on old.seen met.before new.seen met.begins (answered_begins old.most old.number met.before new.seen call result met.answer)

are_begun : (old new : SeatState) (calls : List (Option Call)) (results : List (Result Reply Refusal)) → AreAnswered IsCarriedOut old new calls results → IsOlder old.seen new.seen
are_begun old new calls results (Ends seat) = record { newer = []; is = refl }
are_begun old new calls results (Then old' between new' call result calls' results' met rest) =
    older_on old.seen between.seen new.seen (met_begins old between call result met) (are_begun between new calls' results' rest)

-- a change that finds the journal full
answered_full : (most seat : ℕ) (before after : List Entry) (call : Option Call) (result : Result Reply Refusal) → IsAnswered most seat before after call result
    → result ≡ Err refusals.Full → most ≤ length after
answered_full most seat before after _ _ (Taken call reply lawful room reply_is is_after) is = let no : ⊥ = cc in absurd no
answered_full most seat before after _ _ (NotListed same) is = let no : ⊥ = cc in absurd no
answered_full most seat before after _ _ (BadRule call unlawful same) is = let no : ⊥ = cc in absurd no
answered_full most seat before after _ _ (Full call lawful full same) is = omega (arith, full, ap length same)
answered_full most seat before after _ _ (NoMemory call lawful room same) is = let no : ⊥ = cc in absurd no
answered_full most seat before after _ _ (NotStored call lawful room same) is = let no : ⊥ = cc in absurd no

one_full : (old new : SeatState) (call : Option Call) (result : Result Reply Refusal) → IsCarriedOut old new call result → result ≡ Err refusals.Full → new.most ≤ length new.seen
one_full old new call result met is =
    let most : new.most ≡ old.most = ap (λ (seat : SeatState). seat.most) met.same in
    omega (arith, most, answered_full old.most old.number met.before new.seen call result met.answer is)

-- a full journal stays full
full_stays : (old new : SeatState) (calls : List (Option Call)) (results : List (Result Reply Refusal)) → AreAnswered IsCarriedOut old new calls results
    → (place : ℕ) → place < length results → get_or results place (Err refusals.Full) ≡ Err refusals.Full → new.most ≤ length new.seen
full_stays old new calls results (Ends seat) place below is = absurd (omega (arith, below))
full_stays old new calls results (Then old' between new' call result calls' results' met rest) zero below is =
    let most : new.most ≡ between.most = ap (λ (seat : SeatState). seat.most) (are_same between new calls' results' rest) in
    let begun : IsOlder between.seen new.seen = are_begun between new calls' results' rest in
    omega (arith, one_full old between call result met is, most, ap length begun.is, length-append begun.newer between.seen)
full_stays old new calls results (Then old' between new' call result calls' results' met rest) (suc place) below is =
    full_stays between new calls' results' rest place (omega (arith, below)) is

-- a seat after changes
pub has_met : (old new : SeatState) (calls : List (Option Call)) (results : List (Result Reply Refusal)) → AreAnswered IsCarriedOut old new calls results → HasCarriedOut old new calls results
has_met old new calls results met = record {
  done = met;
  same = are_same old new calls results met;
  begins = are_begun old new calls results met;
  own = are_own old new calls results met;
  full = λ refused. full_stays old new calls results met refused.0 refused.1 refused.2;
}

-- the seat is the hall's after a change too
pub met_ours : (hall : HallState) (old new : SeatState) (call : Option Call) (result : Result Reply Refusal) → IsOf hall old → IsCarriedOut old new call result → IsOf hall new
met_ours hall old new call result ours met =
    let same : new ≡ with_seen old new.seen = met.same in
    record { table = ap (λ (s : SeatState). s.table) same ∙ ours.table; most = ap (λ (s : SeatState). s.most) same ∙ ours.most }

-- a seat that looked or met changes stays the hall's
pub looked_ours : (hall : HallState) (old new : SeatState) → IsOf hall old → HasLooked old new → IsOf hall new
looked_ours hall old new ours looked =
    record { table = ap (λ (s : SeatState). s.table) looked.same ∙ ours.table; most = ap (λ (s : SeatState). s.most) looked.same ∙ ours.most }

pub are_ours : (hall : HallState) (old new : SeatState) (calls : List (Option Call)) (results : List (Result Reply Refusal)) → IsOf hall old → AreAnswered IsCarriedOut old new calls results
    → IsOf hall new
are_ours hall old new calls results ours met =
    let same : new ≡ with_seen old new.seen = are_same old new calls results met in
    record { table = ap (λ (s : SeatState). s.table) same ∙ ours.table; most = ap (λ (s : SeatState). s.most) same ∙ ours.most }
