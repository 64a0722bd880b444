-- What a change that is made again says of a history.
use Rattle.std.proofs.Common.{◌≡◌, ◌⊎◌, inl, inr, ℕ, ◌+◌, ◌<◌, List, [], ◌∷◌, ◌++◌, length, get_or, take, reverse, Some, Ok, Err, sym, ◌∙◌, ap, subst, arith}
use Rattle.std.proofs.lemmas.List.{length-reverse, reverse-append, reverse-reverse, length-map, map_more, take-map}
use Rattle.desk_core.specs.declared.call.Call.{Call}
use Rattle.desk_core.specs.declared.entry.Entry.{Entry}
use Rattle.desk_core.specs.declared.refusal.Refusal.{Refusal}
use Rattle.desk_core.specs.declared.refusal.Refusal.TheVariants as refusals
use Rattle.desk_core.specs.declared.reply.Reply.{Reply}
use Rattle.desk_core.specs.Past.{past}
use Rattle.desk_core.specs.Legal.{IsLegal, IsLawfulCall}
use Rattle.desk_core.specs.Mutation.{IsAnswered, Taken, BadRule, Full, entry_of}
use Rattle.desk_core.specs.Reply.{reply_to}
use Rattle.entry_record.specs.declared.stored.Stored.{Stored}
use Rattle.journal_store.specs.Record.{restored, restored_of}
use Rattle.journal_store.specs.Restored.{IsIllegalAt}

past_more : (journal : List Entry) (entry : Entry) → past (journal ++ entry ∷ []) ≡ entry ∷ past journal
past_more journal entry = reverse-append journal (entry ∷ [])

module _ (most : ℕ) (old new : List Entry) (stored : Stored) where
  abbrev call : Call
  call = stored.entry.call

  abbrev longer : List Entry
  longer = old ++ restored stored ∷ []

  module _ (reply : Reply) (answered : IsAnswered most 0 (past old) (past new) (Some call) (Ok reply)) where
    taken : IsLawfulCall call × (reply ≡ reply_to (past old) call) × (past new ≡ entry_of 0 call reply ∷ past old)
    taken = of answered
      where
        of : IsAnswered most 0 (past old) (past new) (Some call) (Ok reply) → IsLawfulCall call × (reply ≡ reply_to (past old) call) × (past new ≡ entry_of 0 call reply ∷ past old)
        of (Taken _ _ lawful room is grown) = (lawful, is, grown)

    -- with the stored reply it is the stored entry
    pub made : reply ≡ stored.entry.reply → new ≡ longer
    made same = sym (reverse-reverse new) ∙ ap (λ l. reverse l) (taken.2 ∙ ap (λ r. entry_of 0 call r ∷ past old) same ∙ sym (past_more old (restored stored))) ∙ reverse-reverse longer

    pub legal : reply ≡ stored.entry.reply → IsLegal (past old) → IsLegal (past longer)
    legal same before = subst IsLegal (sym (past_more old (restored stored))) (before, sym same ∙ taken.1, taken.0)

    -- with another it is none
    pub another : (reply ≡ stored.entry.reply → ⊥) → IsLegal (past longer) → ⊥
    another not is = let whole = subst IsLegal (past_more old (restored stored)) is in not (taken.1 ∙ sym whole.1)

  -- a rule that is not lawful
  pub unlawful : (refusal : Refusal) → refusal ≡ refusals.BadRule → IsAnswered most 0 (past old) (past new) (Some call) (Err refusal) → IsLegal (past longer) → ⊥
  unlawful refusal is answered whole = of (subst (λ r. IsAnswered most 0 (past old) (past new) (Some call) (Err r)) is answered) (subst IsLegal (past_more old (restored stored)) whole).2
    where
      of : IsAnswered most 0 (past old) (past new) (Some call) (Err refusals.BadRule) → IsLawfulCall call → ⊥
      of (BadRule _ not stays) lawful = not lawful

  -- where there is room and no store, there is no other refusal than for want of memory
  pub impossible : (refusal : Refusal) → length old < most → (refusal ≡ refusals.NotStored → ⊥) → IsAnswered most 0 (past old) (past new) (Some call) (Err refusal)
      → (refusal ≡ refusals.Full) ⊎ (refusal ≡ refusals.NotListed) ⊎ (refusal ≡ refusals.NotStored) → ⊥
  impossible refusal room stored answered (inl is) = of (subst (λ r. IsAnswered most 0 (past old) (past new) (Some call) (Err r)) is answered)
    where
      of : IsAnswered most 0 (past old) (past new) (Some call) (Err refusals.Full) → ⊥
      of (Full _ lawful full stays) = omega (arith, room, full, length-reverse old)
  impossible refusal room stored answered (inr (inl is)) = of (subst (λ r. IsAnswered most 0 (past old) (past new) (Some call) (Err r)) is answered)
    where
      of : IsAnswered most 0 (past old) (past new) (Some call) (Err refusals.NotListed) → ⊥
      of one = elim one [ ]
  impossible refusal room stored answered (inr (inr is)) = stored is

-- one stored entry more
pub one_more : (all : List Stored) (i : ℕ) (one : Stored) → i < length all → one ≡ get_or all i one → restored_of (take i all) ++ restored one ∷ [] ≡ restored_of (take (i + 1) all)
one_more all i one inside is = ap (λ s. restored_of (take i all) ++ restored s ∷ []) is ∙ sym (map_more restored all i one inside)

-- the first stored entry that is not legal
pub illegal_at : (all : List Stored) (i : ℕ) (one : Stored) (journal : List Entry) → i < length all → one ≡ get_or all i one → journal ≡ restored_of (take i all) → IsLegal (past journal)
    → (IsLegal (past (journal ++ restored one ∷ [])) → ⊥) → IsIllegalAt (restored_of all) i
illegal_at all i one journal inside is so_far legal not = record {
  inside = omega (arith, inside, length-map all restored);
  before = subst (λ j. IsLegal (past j)) (so_far ∙ sym (take-map restored i all)) legal;
  first = λ whole. not (subst (λ j. IsLegal (past j)) (take-map restored (i + 1) all ∙ sym (one_more all i one inside is) ∙ ap (λ j. j ++ restored one ∷ []) (sym so_far)) whole);
}
