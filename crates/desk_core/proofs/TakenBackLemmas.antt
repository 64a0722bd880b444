-- What changes of a desk with a store leave of its journal.
use Rattle.std.proofs.Common.{◌≡◌, ℕ, List, [], ◌∷◌, ◌++◌, Option, Some, None, Result, refl, sym, ap, ◌∙◌, append_assoc}
use Rattle.std.proofs.lemmas.List.{append-nil, reverse-reverse}
use Rattle.std.proofs.lemmas.List.Elements.{All-nil, All-weaker, All-append}
use Rattle.desk_core.specs.declared.call.Call.{Call}
use Rattle.desk_core.specs.declared.entry.Entry.{Entry}
use Rattle.desk_core.specs.declared.refusal.Refusal.{Refusal}
use Rattle.desk_core.specs.declared.reply.Reply.{Reply}
use Rattle.desk_core.specs.Past.{past}
use Rattle.desk_core.specs.Left.{Begins, Holds, IsBetween}
use Rattle.desk_core.specs.Mutation.{IsAnswered, AreAnswered, Taken, NotListed, BadRule, Full, NoMemory, NotStored, Ends, Then, entry_of}
use Rattle.desk_core.specs.Reply.{reply_to}
use Rattle.desk_core.specs.Desk.{State, HasAnswered, HasAnsweredAny, TakesNothingBack}
use Rattle.desk_core.proofs.HistoryLemmas.{past_more}
use Rattle.desk_core.proofs.LeftLemmas.{begins_one, begins_longer}

-- one history is of one journal
same_journal : (a b : List Entry) → past a ≡ past b → a ≡ b
same_journal a b same = sym (reverse-reverse a) ∙ ap past same ∙ reverse-reverse b

begins_same : (journal new : List Entry) → past new ≡ past journal → Begins journal new
begins_same journal new same = ([], same_journal new journal same ∙ sym (append-nil journal))

-- a journal begins with the one before a change
begins_answered : (most seat : ℕ) (journal new : List Entry) (call : Option Call) (result : Result Reply Refusal)
    → IsAnswered most seat (past journal) (past new) call result → Begins journal new
begins_answered most seat journal new _ _ (Taken call reply lawful room is after) =
    (entry_of seat call reply ∷ [], same_journal new (journal ++ entry_of seat call reply ∷ []) (after ∙ sym (past_more journal (entry_of seat call reply))))
begins_answered most seat journal new _ _ (NotListed same) = begins_same journal new same
begins_answered most seat journal new _ _ (BadRule call unlawful same) = begins_same journal new same
begins_answered most seat journal new _ _ (Full call lawful full same) = begins_same journal new same
begins_answered most seat journal new _ _ (NoMemory call lawful room same) = begins_same journal new same
begins_answered most seat journal new _ _ (NotStored call lawful room same) = begins_same journal new same

-- one change
step : (old new : State) (seat : ℕ) (call : Call) (result : Result Reply Refusal) → HasAnswered old new seat call result → Holds old.left old.journal
    → Begins old.journal new.journal × TakesNothingBack old new
step old new seat call result answered holds =
    let begins : Begins old.journal new.journal = begins_answered old.max_entries seat old.journal new.journal (Some call) result answered.answer in
    let entry : Entry = entry_of seat call (reply_to (past old.journal) call) in (
      begins,
      record {
        more = answered.stored.crash.more;
        ever = answered.stored.crash.ever;
        since = All-weaker (IsBetween old.left old.journal (old.journal ++ entry ∷ [])) (λ m. Begins old.journal m.left)
            (λ m is. begins_one old.left old.journal (entry ∷ []) m.left holds is.left) answered.stored.crash.more answered.stored.crash.each;
        now = All-weaker (Begins new.journal) (Begins old.journal) (λ j. begins_longer old.journal new.journal j begins) new.left.now answered.stored.kept.now;
      },
    )

-- many changes
pub taken_back : (old new : State) (calls : List (Option Call)) (results : List (Result Reply Refusal)) → AreAnswered HasAnsweredAny old new calls results → Holds old.left old.journal
    → TakesNothingBack old new
taken_back old new _ _ (Ends state) holds = record { more = []; ever = refl; since = All-nil (λ m. Begins old.journal m.left); now = holds.now }
taken_back old new _ _ (Then old' between new' None result calls results one rest) holds = absurd one
taken_back old new _ _ (Then old' between new' (Some call) result calls results (seat, answered) rest) holds =
    let first = step old between seat call result answered holds in
    let later = taken_back between new calls results rest answered.stored.kept in
    let on : (j : List Entry) → Begins between.journal j → Begins old.journal j = λ j. begins_longer old.journal between.journal j first.0 in
    record {
      more = later.more ++ first.1.more;
      ever = later.ever ∙ ap (λ l. later.more ++ l) first.1.ever ∙ sym (append_assoc later.more first.1.more old.left.ever);
      since = All-append (λ m. Begins old.journal m.left) later.more first.1.more
          (All-weaker (λ m. Begins between.journal m.left) (λ m. Begins old.journal m.left) (λ m. on m.left) later.more later.since) first.1.since;
      now = All-weaker (Begins between.journal) (Begins old.journal) on new.left.now later.now;
    }
