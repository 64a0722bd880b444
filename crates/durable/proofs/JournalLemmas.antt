-- The entries of a journal that a run begins with.
use Rattle.std.proofs.Common.{◌≡◌, ◌<◌, ◌≤◌, ◌+◌, ℕ, List, [], ◌∷◌, ◌++◌, length, take, get_or, refl, sym, ap, subst, ◌∙◌}
use Rattle.std.proofs.lemmas.List.{map_more}
use Rattle.std.proofs.lemmas.List.Elements.{All-head, All-tail, All-map}
use Rattle.desk_core.specs.declared.entry.Entry.{Entry}
use Rattle.desk_core.specs.Left.{Left, Holds, HasLeft, LeavesJournal}
use Rattle.desk_core.specs.Mutation.{entry_of}
use Rattle.desk_core.proofs.LeftLemmas.{holds_all, holds_on}
use Rattle.entry_record.specs.declared.stored.Stored.{Stored}
use Rattle.hall.specs.CarriedOut.{replied}
use Rattle.journal_store.specs.Record.{restored_of}
use Rattle.hall.specs.Seats.{new_seats}
use Rattle.server.specs.Again.{changes_of, replies_of}
use Rattle.server.specs.Setup.{AreSetUp, SetUpState}
use Rattle.server.specs.Storing.{HasItsEntries}
use Rattle.durable.specs.Journal.{AreOfFirst, FirstHasSeen, FirstHasSeenIts, IsKeptIn}

-- those that an earlier run made are of the first seat
pub restored_first : (stored : List Stored) (entries : List Entry) → entries ≡ restored_of stored → AreOfFirst entries
restored_first stored entries are = subst AreOfFirst (sym are) (All-map (λ entry. entry.seat ≡ 0) (λ one. entry_of 0 one.entry.call one.entry.reply) stored (λ k d below. refl))

-- one more of them
pub restored_more : (stored : List Stored) (index : ℕ) (one : Stored) (entries more : List Entry) → index < length stored → one ≡ get_or stored index one
    → entries ≡ restored_of (take index stored) → more ≡ entries ++ entry_of 0 one.entry.call one.entry.reply ∷ [] → more ≡ restored_of (take (index + 1) stored)
restored_more stored index one entries more inside is so_far pushed =
    let restored : Stored → Entry = λ some. entry_of 0 some.entry.call some.entry.reply in
    pushed ∙ (ap (λ some. some ++ restored one ∷ []) so_far
    ∙ (ap (λ some. restored_of (take index stored) ++ restored some ∷ []) is ∙ sym (map_more restored stored index one inside)))

-- a file's entries, when it was opened
pub opened : (journal : List Entry) (left : Left) (stored : List Stored) (entries : List Entry) → entries ≡ restored_of stored → journal ≡ restored_of stored
    → Holds left (restored_of stored) → IsKeptIn journal left entries
opened journal left stored entries are is held = record {
  stands = is ∙ sym are;
  holds = subst (Holds left) (sym are) held;
  seats = restored_first stored entries are;
}

-- those of a setup, once they are stored
pub begun : (old new : Left) (journal none entries : List Entry) → none ≡ [] → journal ≡ none ++ entries → Holds old none → HasLeft old new none (none ++ entries)
    → LeavesJournal new (none ++ entries) → AreOfFirst entries → IsKeptIn journal new entries
begun old new journal none entries empty is held left leaves first =
    let whole : none ++ entries ≡ entries = ap (λ (some : List Entry). some ++ entries) empty in
    record {
      stands = is ∙ whole;
      holds = subst (Holds new) whole (holds_all old new none entries held left leaves);
      seats = first;
    }

-- and what a crash leaves meanwhile
pub left_by : (was old new : Left) (none given entries : List Entry) → old ≡ was → none ≡ [] → given ≡ entries → HasLeft old new none (none ++ given) → HasLeft was new [] entries
left_by was old new none given entries same empty are left =
    subst (λ before. HasLeft before new [] entries) same
    (subst (λ some. HasLeft old new [] some) are (subst (λ some. HasLeft old new some (some ++ given)) empty left))

-- those before, where they are not
pub refused : (old new : Left) (journal kept entries : List Entry) → journal ≡ kept → Holds old kept → HasLeft old new kept (kept ++ entries) → AreOfFirst kept → IsKeptIn journal new kept
refused old new journal kept entries is held left first = record { stands = is; holds = holds_on old new kept entries held left; seats = first }

-- the entries of changes that are made again, each with its reply, are those that they were
pub replied_again : (entries : List Entry) → AreOfFirst entries → replied 0 (changes_of entries) (replies_of entries) ≡ entries
replied_again [] first = refl
replied_again (entry ∷ entries) first =
    ap (λ (seat : ℕ). entry_of seat entry.call entry.reply ∷ replied 0 (changes_of entries) (replies_of entries)) (sym (All-head (λ one. one.seat ≡ 0) entry entries first))
    ∙ ap (λ (rest : List Entry). entry ∷ rest) (replied_again entries (All-tail (λ one. one.seat ≡ 0) entry entries first))

-- a hall that was set up again by the entries of a store
module _ (made : SetUpState) (most seats : ℕ) (given entries : List Entry) (are : given ≡ entries) (first : AreOfFirst entries) (most_is : made.hall.most ≡ most)
    (seats_are : made.hall.seats ≡ seats) (set : AreSetUp (changes_of given) made.results (new_seats made.hall.table most seats) made.seats) (replies : made.results ≡ replies_of given) where
  pub set_again : AreSetUp (changes_of entries) made.results (new_seats made.hall.table made.hall.most made.hall.seats) made.seats
  set_again =
      subst (λ some. AreSetUp (changes_of some) made.results (new_seats made.hall.table made.hall.most made.hall.seats) made.seats) are
      (subst (λ n. AreSetUp (changes_of given) made.results (new_seats made.hall.table made.hall.most n) made.seats) (sym seats_are)
      (subst (λ n. AreSetUp (changes_of given) made.results (new_seats made.hall.table n seats) made.seats) (sym most_is) set))

  replied_are : replied 0 (changes_of entries) made.results ≡ entries
  replied_are = ap (λ results. replied 0 (changes_of entries) results) (replies ∙ ap replies_of are) ∙ replied_again entries first

  pub has_them : {K : Type 0} (stands : K → List Entry → Type 0) (left : K → Left) (store : K) → 1 ≤ seats → stands store entries → Holds (left store) entries
      → HasItsEntries stands left store made
  has_them stands left store some stands_for held = record {
    some = subst (λ n. 1 ≤ n) (sym seats_are) some;
    calls = changes_of entries;
    set_up = set_again;
    stands_for = subst (stands store) (sym replied_are) stands_for;
    holds = subst (Holds (left store)) (sym replied_are) held;
  }

  pub first_has_seen : FirstHasSeenIts made → FirstHasSeen made.seats entries
  first_has_seen seen = subst (FirstHasSeen made.seats) replied_are (seen (changes_of entries) set_again)
