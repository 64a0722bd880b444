-- What a desk's store has, beside its journal.
use Rattle.std.proofs.Common.{◌≡◌, ◌≢◌, false, List, [], ◌∷◌, ◌++◌, Option, Ok, Err, refl, sym, ap, subst, ◌∙◌, inl, inr, append_assoc}
use Rattle.std.specs.Prelude.{All, Contains}
use Rattle.std.proofs.lemmas.List.{append-nil}
use Rattle.std.proofs.lemmas.List.Elements.{All-nil, All-weaker, All-append, All-contains, All-contains_itself}
use Rattle.desk_core.specs.declared.entry.Entry.{Entry}
use Rattle.desk_core.specs.declared.refusal.Refusal.{Refusal}
use Rattle.desk_core.specs.declared.refusal.Refusal.TheVariants.{NotStored}
use Rattle.desk_core.specs.declared.reply.Reply.{Reply}
use Rattle.desk_core.specs.Left.{Left, Moment, Begins, LeavesJournal, IsKept, Holds, IsBetween, HasLeft, IsOneOf, left_of, nothing_left, is_stored}
use Rattle.desk_core.specs.Desk.{State, HasStored}

-- nothing was to be stored
pub nothing_done : (left : Left) (before after : List Entry) → HasLeft left left before after
nothing_done left before after = record {
  more = [];
  ever = refl;
  each = All-nil (IsBetween left before after);
  now = All-weaker (Contains left.now) (IsOneOf left before after) (λ j has. inl has) left.now (All-contains_itself left.now);
}

-- where a crash leaves nothing it takes nothing back
pub nothing_held : (journal : List Entry) → Holds nothing_left journal
nothing_held journal = record { now = All-nil (Begins journal); ever = All-nil (IsKept journal) }

-- a journal begins with itself
begins_itself : (journal j : List Entry) → j ≡ journal → Begins journal j
begins_itself journal j is = ([], is ∙ sym (append-nil journal))

-- what begins with a longer journal begins with the shorter
pub begins_longer : (journal longer j : List Entry) → Begins journal longer → Begins longer j → Begins journal j
begins_longer journal longer j (more, is) (rest, ends) = (more ++ rest, ends ∙ ap (λ l. l ++ rest) is ∙ append_assoc journal more rest)

-- whatever a crash left since entries were to be stored begins with the journal before them
pub begins_one : (old : Left) (journal more j : List Entry) → Holds old journal → IsOneOf old journal (journal ++ more) j → Begins journal j
begins_one old journal more j holds (inl has) = All-contains (Begins journal) old.now j holds.now has
begins_one old journal more j holds (inr (inl is)) = begins_itself journal j is
begins_one old journal more j holds (inr (inr is)) = (more, is)

-- at a moment of storing entries behind a journal a crash takes nothing of it back
pub kept_between : (old : Left) (journal more later : List Entry) (moment : Moment) → Holds old journal → Begins journal later → IsBetween old journal (journal ++ more) moment
    → IsKept later moment
kept_between old journal more later moment holds begins between = record {
  told = subst (λ j. Begins j later) (sym between.told) begins;
  kept = subst (λ j. Begins j moment.left) (sym between.told) (begins_one old journal more moment.left holds between.left);
}

-- each moment so far, where the journal is now this longer one
ever_on : (old new : Left) (journal more later : List Entry) → Holds old journal → Begins journal later → HasLeft old new journal (journal ++ more) → All (IsKept later) new.ever
ever_on old new journal more later holds begins left =
    subst (All (IsKept later)) (sym left.ever)
    (All-append (IsKept later) left.more old.ever
    (All-weaker (IsBetween old journal (journal ++ more)) (IsKept later) (λ m. kept_between old journal more later m holds begins) left.more left.each)
    (All-weaker (IsKept journal) (IsKept later) (λ m is. record { told = begins_longer m.told journal later is.told begins; kept = is.kept }) old.ever holds.ever))

-- entries that were not stored
pub holds_on : (old new : Left) (journal more : List Entry) → Holds old journal → HasLeft old new journal (journal ++ more) → Holds new journal
holds_on old new journal more holds left = record {
  now = All-weaker (IsOneOf old journal (journal ++ more)) (Begins journal) (λ j. begins_one old journal more j holds) new.now left.now;
  ever = ever_on old new journal more journal holds (begins_itself journal journal refl) left;
}

-- entries that were stored: a crash now leaves the journal with them, and no other
pub holds_all : (old new : Left) (journal more : List Entry) → Holds old journal → HasLeft old new journal (journal ++ more) → LeavesJournal new (journal ++ more)
    → Holds new (journal ++ more)
holds_all old new journal more holds left leaves = record {
  now = All-weaker (λ j. j ≡ journal ++ more) (Begins (journal ++ more)) (λ j. begins_itself (journal ++ more) j) new.now leaves.each;
  ever = ever_on old new journal more (journal ++ more) holds (more, refl) left;
}

-- a change that is refused before its entry is stored
pub spared : (old new : State) (entry : Entry) (refusal : Refusal) → new.left ≡ old.left → new.is_stored ≡ old.is_stored → new.journal ≡ old.journal
    → Holds old.left old.journal → refusal ≢ NotStored → HasStored old new entry (Err refusal)
spared old new entry refusal left same journal holds other = record {
  same = same;
  crash = subst (λ l. HasLeft old.left l old.journal (old.journal ++ entry ∷ [])) (sym left) (nothing_done old.left old.journal (old.journal ++ entry ∷ []));
  kept = rw (left, journal) holds;
  durable = λ ok. cc;
  spared = λ r is not. left;
  unstored = λ none is. other (cc is);
}

module _ {S : Type 0} (left : S → Left) (before after : Option S) (old new : State) (entry : Entry) (was : old.left ≡ left_of left before) (is : new.left ≡ left_of left after)
    (had : old.is_stored ≡ is_stored before) (has : new.is_stored ≡ is_stored after) (same : is_stored after ≡ is_stored before)
    (journal : List Entry) (began : journal ≡ old.journal) (crash : HasLeft (left_of left before) (left_of left after) journal (journal ++ entry ∷ [])) where
  left_since : HasLeft old.left new.left old.journal (old.journal ++ entry ∷ [])
  left_since = rw (was, is, sym began) crash

  same_store : new.is_stored ≡ old.is_stored
  same_store = has ∙ same ∙ sym had

  -- an entry that was stored
  pub stored : (reply : Reply) → new.journal ≡ old.journal ++ entry ∷ [] → Holds (left_of left before) journal → LeavesJournal (left_of left after) (journal ++ entry ∷ [])
      → HasStored old new entry (Ok reply)
  stored reply grown holds leaves = record {
    same = same_store;
    crash = left_since;
    kept = rw (is, grown, sym began) (holds_all (left_of left before) (left_of left after) journal (entry ∷ []) holds crash leaves);
    durable = λ ok. rw (is, grown, sym began) leaves;
    spared = λ refusal made. cc;
    unstored = λ none made. cc;
  }

  -- one that the store refused
  pub refused : new.journal ≡ old.journal → Holds (left_of left before) journal → (is_stored before ≡ false → ⊥) → HasStored old new entry (Err NotStored)
  refused stays holds some = record {
    same = same_store;
    crash = left_since;
    kept = rw (is, stays, sym began) (holds_on (left_of left before) (left_of left after) journal (entry ∷ []) holds crash);
    durable = λ ok. cc;
    spared = λ refusal is not. absurd (not (cc is));
    unstored = λ none refused. some (sym had ∙ none);
  }
