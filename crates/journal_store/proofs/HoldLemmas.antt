-- How records go on holding a journal.
use Rattle.std.proofs.Common.{◌≡◌, inl, inr, ℕ, zero, suc, ◌+◌, ◌-◌, ◌≤◌, Vec, List, [], ◌∷◌, ◌++◌, length, take, drop, sym, ◌∙◌, ap, subst, arith, append_assoc}
use Rattle.std.proofs.Math.Seq.{drop-append-add}
use Rattle.std.proofs.lemmas.List.{append-nil, take-append-drop, take_all, take-map, drop-map, length-drop, length-map, length-take-le, drop_at}
use Rattle.std.specs.declared.alloc.Global.{Global}
use Rattle.record_log.specs.Log.{blocks, texts}
use Rattle.desk_core.specs.declared.entry.Entry.{Entry}
use Rattle.desk_core.specs.Legal.{IsLegal}
use Rattle.desk_core.specs.Past.{past}
use Rattle.journal_store.specs.Alike.{AreAlike}
use Rattle.entry_record.specs.declared.stored.Stored.{Stored}
use Rattle.journal_store.specs.Preface.{Front, IsFront, preface_of}
use Rattle.journal_store.specs.Read.{AreFound, AreRead}
use Rattle.journal_store.specs.Record.{AreOf, AreAdded, AreRecords, HoldJournal, restored, restored_of}
use Rattle.journal_store.specs.Standing.{StandFor, IsNext}
use Rattle.journal_store.proofs.RecordLemmas.{are_of, are_added, all_records}
use Rattle.journal_store.proofs.AlikeLemmas.{alike_joined}
use Rattle.journal_store.proofs.SeatLemmas.{unseated, unseated_of, same_entries, seats_legal, seats_alike}
use Rattle.journal_store.proofs.StandingLemmas.{begins, grows, rewritten}

-- those that were found in a file
pub hold_found : (front : Front) (records : List (List ℕ)) (stored : List Stored) → IsFront front → AreFound front records stored → front.condensed ≤ length stored → HoldJournal front front records (restored_of stored)
hold_found front records stored fits found enough = record {
  fits = fits;
  entries = restored_of stored;
  are = are_of front records stored found;
  stand = begins front (restored_of stored) (omega (arith, enough, length-map stored restored));
}

-- with those of more entries behind them
pub hold_more : (start front : Front) (records batch : List (List ℕ)) (journal entries : List Entry) → HoldJournal start front records journal → AreAdded front (blocks records) batch entries
    → HoldJournal start front (records ++ batch) (journal ++ entries)
hold_more start front records batch journal entries known added = record {
  fits = known.fits;
  entries = known.entries ++ entries;
  are = are_added front records batch known.entries entries known.are added;
  stand = grows start front known.entries journal entries known.stand;
}

-- with none
pub hold_same : (start front : Front) (records : List (List ℕ)) (journal : List Entry) → HoldJournal start front records journal → HoldJournal start front records (journal ++ [])
hold_same start front records journal = subst (HoldJournal start front records) (sym (append-nil journal))

drop_records : (n : ℕ) (records : List (List ℕ)) (entries : List Entry) → AreRecords records entries → AreRecords (drop n records) (drop n entries)
drop_records zero records entries are = are
drop_records (suc n) [] [] are = tt
drop_records (suc n) [] (e ∷ entries) are = absurd are
drop_records (suc n) (r ∷ records) [] are = absurd are
drop_records (suc n) (r ∷ records) (e ∷ entries) are = drop_records n records entries are.1

-- with short entries in the place of the first so many, which were read behind the preface
module _ (start front next : Front) (fits : IsFront next) (found batch : List (List ℕ)) (stored : List Stored) (n : ℕ) (short journal : List Entry) where
  module _ (behind : List (List ℕ)) (entries : List Entry) (whole : found ≡ preface_of front ++ behind) (are : AreRecords behind entries) (stand : StandFor start front entries journal)
      (read : AreRead behind stored) (few : n ≤ length stored) (enough : front.condensed ≤ n) (is : IsNext front next (restored_of (take n stored)) short)
      (legal : IsLegal (past (restored_of (take n stored)))) (alike : AreAlike (past short) (past (restored_of (take n stored)))) (added : AreAdded next [] batch short) where
    same : restored_of (take n stored) ≡ unseated_of (take n entries)
    same = sym (take-map restored n stored) ∙ ap (λ (l : List Entry). take n l) (same_entries behind stored entries read are) ∙ take-map unseated n entries

    long : length (restored_of (take n stored)) ≡ n
    long = length-map (take n stored) restored ∙ length-take-le n stored few

    as_long : length (take n entries) ≡ n
    as_long = sym (length-map (take n entries) unseated) ∙ sym (ap length same) ∙ long

    first_legal : IsLegal (past (unseated_of (take n entries)))
    first_legal = subst (λ (l : List Entry). IsLegal (past l)) same legal

    first_alike : AreAlike (past short) (past (take n entries))
    first_alike = alike_joined (past short) (past (unseated_of (take n entries))) (past (take n entries))
        (subst (λ (l : List Entry). AreAlike (past short) (past l)) same alike) (seats_alike (take n entries) first_legal)

    next_is : IsNext front next (take n entries) short
    next_is = record { names = is.names; condensed = is.condensed; base = is.base ∙ ap (λ (k : ℕ). front.base + k) (long ∙ sym as_long) }

    behind_is : drop (length front.names + 1 + n) found ≡ drop n behind
    behind_is = ap (λ (l : List (List ℕ)). drop (length front.names + 1 + n) l) whole
        ∙ ap (λ (k : ℕ). drop (k + n) (preface_of front ++ behind)) (omega arith) ∙ drop-append-add (preface_of front) behind n

    hold : HoldJournal start next (batch ++ drop (length front.names + 1 + n) found) journal
    hold = record {
      fits = fits;
      entries = short ++ drop n entries;
      are = inr (
        added.0 ++ drop n behind,
        ap (λ (l : List (List ℕ)). batch ++ l) behind_is ∙ ap (λ (l : List (List ℕ)). l ++ drop n behind) added.1 ∙ append_assoc (preface_of next) added.0 (drop n behind),
        all_records added.0 (drop n behind) short (drop n entries) added.2 (drop_records n behind entries are),
      );
      stand = rewritten start front next (take n entries) (drop n entries) short journal (subst (λ (l : List Entry). StandFor start front l journal) (sym (take-append-drop n entries)) stand)
          (omega (arith, enough, as_long)) (seats_legal (take n entries) first_legal) first_alike next_is;
    }

  pub hold_short : HoldJournal start front found journal → length front.names + 1 ≤ length found → AreRead (drop (length front.names + 1) found) stored → n ≤ length stored → front.condensed ≤ n
      → IsNext front next (restored_of (take n stored)) short → IsLegal (past (restored_of (take n stored))) → AreAlike (past short) (past (restored_of (take n stored)))
      → AreAdded next [] batch short → HoldJournal start next (batch ++ drop (length front.names + 1 + n) found) journal
  hold_short known begun read few enough is legal alike added = of known.are
    where
      of : AreOf front found known.entries → HoldJournal start next (batch ++ drop (length front.names + 1 + n) found) journal
      of (inl (none, new)) = absurd (omega (arith, begun, ap length none))
      of (inr (behind, whole, are)) =
          let there : drop (length front.names + 1) found ≡ behind = ap (λ (l : List (List ℕ)). drop (length front.names + 1) l) whole ∙ drop_at (preface_of front) behind (length front.names + 1) (omega arith) in
          hold behind known.entries whole are known.stand (subst (λ (l : List (List ℕ)). AreRead l stored) there read) few enough is legal alike added

-- the same, of the records that were read and the copies of the newest
pub hold_anew : (start front next : Front) (fits : IsFront next) (found batch new names : List (Vec ℕ Global)) (stored : List Stored) (n : ℕ) (short journal : List Entry) → texts names ≡ front.names
    → AreRead (texts (drop (length names + 1) found)) stored → length names + 1 + length stored ≡ length found → n ≤ length stored → front.condensed ≤ n
    → IsNext front next (restored_of (take n stored)) short → IsLegal (past (restored_of (take n stored))) → AreAlike (past short) (past (restored_of (take n stored))) → AreAdded next [] (texts batch) short
    → texts new ≡ texts batch ++ texts (take (length found - (length names + 1 + n)) (drop (length names + 1 + n) found)) → HoldJournal start front (texts found) journal → HoldJournal start next (texts new) journal
hold_anew start front next fits found batch new names stored n short journal named read many few enough is legal alike added whole hold =
    subst (λ (l : List (List ℕ)). HoldJournal start next l journal) (sym (whole ∙ ap (λ (l : List (List ℕ)). texts batch ++ l) rest))
    (hold_short start front next fits (texts found) (texts batch) stored n short journal hold (omega (arith, count, long, many))
    (subst (λ (l : List (List ℕ)). AreRead l stored) (sym (drop-map (λ (v : Vec ℕ Global). v.items) (length names + 1) found) ∙ ap (λ (k : ℕ). drop (k + 1) (texts found)) count) read) few enough is legal alike added)
  where
    count : length names ≡ length front.names
    count = sym (length-map names (λ (v : Vec ℕ Global). v.items)) ∙ ap length named

    long : length (texts found) ≡ length found
    long = length-map found (λ (v : Vec ℕ Global). v.items)

    rest : texts (take (length found - (length names + 1 + n)) (drop (length names + 1 + n) found)) ≡ drop (length front.names + 1 + n) (texts found)
    rest = ap texts (take_all (length found - (length names + 1 + n)) (drop (length names + 1 + n) found) (omega (arith, length-drop (length names + 1 + n) found)))
        ∙ sym (drop-map (λ (v : Vec ℕ Global). v.items) (length names + 1 + n) found) ∙ ap (λ (k : ℕ). drop (k + 1 + n) (texts found)) count
