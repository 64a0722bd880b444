use Rattle.std.proofs.Common.{◌&&◌, ◌||◌, ◌==◌, not, true, zero, suc, add-one, refl, ◌≡◌, ℕ, ◌+◌, ◌<◌, Option, Some, List, [], ◌∷◌, ◌++◌, length}
use Rattle.std.proofs.Common.{take, drop, map, get_or, set, sym, ap, ◌∙◌, arith, append_assoc}
use Rattle.std.proofs.lemmas.List.{append-nil, drop_more, map_more, get_or_at, set_at, length-map, length-set, length-take-le}
use Rattle.std.proofs.lemmas.Grind.{common_steps}
use Rattle.std.proofs.Math.Seq.{drop-length, take-length}
use Rattle.std.proofs.lemmas.Nat.Bits.{bit_at-zero}
use Rattle.probe_core.specs.declared.event.Event.{Event}
use Rattle.probe_core.specs.declared.rule.Rule.{Rule}
use Rattle.desk_core.specs.declared.reply.Reply.{Reply}
use Rattle.desk_core.specs.declared.reply.Reply.TheVariants.{Done, Replaced, Missing, WrongKind, Ignored}
use Rattle.health_wire.specs.declared.serving.Serving.{Serving}
use Rattle.std.specs.Option.{option_map}
use Rattle.desk_core.specs.declared.call.Call.{Call}
use Rattle.desk_core.specs.declared.call.Call.TheVariants.{Register}
use Rattle.desk_core.specs.Mutation.{rule_of}
use Rattle.desk_core.specs.Status.{has_slot, is_serving}
use Rattle.desk_core.specs.Slots.{IsHeard, was_reset, covers_below}

-- the places below the index were reset, and the others are as they were
abbrev pub HasReset : List (Option (Rule × ℕ)) → List (Option (Rule × ℕ)) → ℕ → Type 0
HasReset old new index = new ≡ map was_reset (take index old) ++ drop index old

pub reset_more : (old now new : List (Option (Rule × ℕ))) (index : ℕ) (default : Option (Rule × ℕ)) → index < length old → HasReset old now index
    → new ≡ set now index (was_reset (get_or now index default)) → HasReset old new (index + 1)
reset_more old now new index default below reset is =
    let front = map was_reset (take index old) in
    let place = get_or old index default in
    let rest = drop (index + 1) old in
    let len : length (map was_reset (take index old)) ≡ index = length-map (take index old) was_reset ∙ length-take-le index old (omega arith) in
    let whole : now ≡ map was_reset (take index old) ++ (get_or old index default ∷ drop (index + 1) old) = reset
    ∙ ap (λ xs. map was_reset (take index old) ++ xs) (drop_more old index default below) in
    let read : get_or now index default ≡ get_or old index default = ap (λ xs. get_or xs index default) whole ∙ get_or_at front place rest default index len in
    is
    ∙ ap (λ x. set now index (was_reset x)) read
    ∙ ap (λ xs. set xs index (was_reset place)) whole
    ∙ set_at front place rest (was_reset place) index len
    ∙ sym (append_assoc front (was_reset place ∷ []) rest)
    ∙ ap (λ xs. xs ++ rest) (sym (map_more was_reset old index default below))

-- the list has its length, and once the index is at its end all of it was reset
pub reset_length : (old now : List (Option (Rule × ℕ))) (index : ℕ) → index < length old → HasReset old now index → length now ≡ length old
reset_length old now index below reset = grind (arith, common_steps, ap length reset, length-map (take index old) was_reset)

pub reset_all : (old now : List (Option (Rule × ℕ))) (index : ℕ) → index ≡ length old → HasReset old now index → now ≡ map was_reset old
reset_all old now index is reset =
    reset ∙ ap (λ n. map was_reset (take n old) ++ drop n old) is ∙ ap (λ xs. map was_reset xs ++ drop (length old) old) (take-length old)
    ∙ ap (λ xs. map was_reset old ++ xs) (drop-length old) ∙ append-nil (map was_reset old)

-- an event leaves the list its length, heard or not
pub heard_length : (slot : ℕ) (event : Event) (reply : Reply) (old new : List (Option (Rule × ℕ))) → IsHeard slot event reply old new → length new ≡ length old
heard_length slot event Done old new heard = ap length (heard.done refl) ∙ length-set _ _ _
heard_length slot event Replaced old new heard = ap length (heard.others (λ is. cc))
heard_length slot event Missing old new heard = ap length (heard.others (λ is. cc))
heard_length slot event WrongKind old new heard = ap length (heard.others (λ is. cc))
heard_length slot event Ignored old new heard = ap length (heard.others (λ is. cc))

pub covers-none : (statuses : ℕ → Option Serving) (mask : ℕ) → covers_below statuses 0 mask ≡ true
unfolding covers_below
covers-none statuses mask = refl

-- a mask of no slots is covered
pub covers-nothing : (statuses : ℕ → Option Serving) (n : ℕ) → covers_below statuses n 0 ≡ true
unfolding covers_below
covers-nothing statuses zero = refl
covers-nothing statuses (suc n) =
    ap (λ b. b && (not (has_slot 0 n) || is_serving (statuses n))) (covers-nothing statuses n)
    ∙ ap (λ k. not (k == 1) || is_serving (statuses n)) (bit_at-zero n)

pub covers-more : (statuses : ℕ → Option Serving) (n mask : ℕ) → covers_below statuses (n + 1) mask ≡ (covers_below statuses n mask && (not (has_slot mask n) || is_serving (statuses n)))
unfolding covers_below
covers-more statuses n mask = rw add-one refl

-- the probe that a registration brings has its rule
pub registered_rule : {P : Type 0} (rule : P → Rule) (probe : Option P) (own : P) (call : Call) (slot : ℕ) (said : Rule)
    → option_map rule probe ≡ rule_of call → probe ≡ Some own → call ≡ Register slot said → rule own ≡ said
registered_rule rule probe own call slot said ruled there is =
    let both : Some (rule own) ≡ Some said = ap (option_map rule) (sym there) ∙ ruled ∙ ap rule_of is in
    cc
