-- Entries whose changes are made again, the oldest first.
use Rattle.std.proofs.Common.{◌≡◌, ℕ, ◌+◌, ◌<◌, ◌≤◌, List, [], ◌∷◌, ◌++◌, length, take, get_or, Bool, true, false, sym, ap, subst, ◌∙◌, rules}
use denote.Enum.Bare.{sameb, same_true}
use Rattle.desk_core.specs.contracts.reply.Reply.{the_type}
use Rattle.std.specs.Prelude.{Option, Some, Result, Ok, Err}
use Rattle.std.proofs.lemmas.List.{map_more}
use Rattle.std.proofs.Math.Seq.{take_all}
use Rattle.desk_core.specs.declared.call.Call.{Call}
use Rattle.desk_core.specs.declared.entry.Entry.{Entry}
use Rattle.desk_core.specs.declared.refusal.Refusal.{Refusal}
use Rattle.desk_core.specs.declared.reply.Reply.{Reply}
use Rattle.desk_core.specs.Mutation.{AreAnswered}
use Rattle.desk_core.specs.Mutation.AreAnswered.{Ends}
use Rattle.hall.specs.Seats.{SeatState, IsCarriedOut}
use Rattle.hall.specs.CarriedOut.{HasCarriedOut}
use Rattle.hall.proofs.CarryingOut.{has_met, meets_more}
use Rattle.server.specs.declared.again_fault.AgainFault.{AgainFault}
use Rattle.server.specs.Again.{changes_of, replies_of}

-- so many of them were made
pub record AreMade (old now : SeatState) (entries : List Entry) (results : List (Result Reply Refusal)) : Type 0 where
  pub met : AreAnswered IsCarriedOut old now (changes_of entries) results
  pub replies : results ≡ replies_of entries

-- none at first
pub none_made : (seat : SeatState) (results : List (Result Reply Refusal)) → results ≡ [] → AreMade seat seat [] results
none_made seat results none = record { met = subst (AreAnswered IsCarriedOut seat seat []) (sym none) (Ends seat); replies = none }

-- and one more
pub made_more : (old now new : SeatState) (all : List Entry) (i : ℕ) (entry : Entry) (results more : List (Result Reply Refusal)) → i < length all → entry ≡ get_or all i entry
    → AreMade old now (take i all) results → IsCarriedOut now new (Some entry.call) (Ok entry.reply) → more ≡ results ++ Ok entry.reply ∷ [] → AreMade old new (take (i + 1) all) more
made_more old now new all i entry results more inside is made met pushed =
    let call : Entry → Option Call = λ one. Some one.call in
    let reply : Entry → Result Reply Refusal = λ one. Ok one.reply in
    record {
      met = subst (λ calls. AreAnswered IsCarriedOut old new calls more) (ap (λ one. changes_of (take i all) ++ call one ∷ []) is ∙ sym (map_more call all i entry inside))
          (subst (AreAnswered IsCarriedOut old new (changes_of (take i all) ++ Some entry.call ∷ [])) (sym pushed)
          (meets_more old now new (changes_of (take i all)) results (Some entry.call) (Ok entry.reply) made.met met));
      replies = pushed ∙ (ap (λ some. some ++ Ok entry.reply ∷ []) made.replies
          ∙ (ap (λ one. replies_of (take i all) ++ reply one ∷ []) is ∙ sym (map_more reply all i entry inside)));
    }

-- all of them
pub all_made : (old new : SeatState) (all : List Entry) (i : ℕ) (results : List (Result Reply Refusal)) → length all ≤ i → AreMade old new (take i all) results
    → HasCarriedOut old new (changes_of all) results
all_made old new all i results past made =
    has_met old new (changes_of all) results (subst (λ some. AreAnswered IsCarriedOut old new (changes_of some) results) (take_all i all past) made.met)

-- each has its reply
pub all_replied : (old new : SeatState) (all : List Entry) (i : ℕ) (results : List (Result Reply Refusal)) → length all ≤ i → AreMade old new (take i all) results
    → results ≡ replies_of all
all_replied old new all i results past made = made.replies ∙ ap replies_of (take_all i all past)

-- a change whose reply is the one that was asked for
pub made_as : (old new : SeatState) (call : Option Call) (made asked : Reply) (is_same : Bool) → is_same ≡ sameb the_type made asked
    → ◌≡◌ {A = Result Bool AgainFault} (Ok is_same) (Ok true) → IsCarriedOut old new call (Ok made) → IsCarriedOut old new call (Ok asked)
made_as old new call made asked is_same is told carried =
    let same : is_same ≡ true = cc in
    subst (λ reply. IsCarriedOut old new call (Ok reply)) (same_true the_type (search rules) made asked (sym is ∙ same)) carried

-- neither a reply that differs nor a fault is a change that was made
pub not_made : {Claim : Type 0} → ◌≡◌ {A = Result Bool AgainFault} (Ok false) (Ok true) → Claim
not_made is = cc

pub not_faulty : {Claim : Type 0} (fault : AgainFault) → ◌≡◌ {A = Result Bool AgainFault} (Err fault) (Ok true) → Claim
not_faulty fault is = cc
