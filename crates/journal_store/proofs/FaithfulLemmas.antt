-- How a store's file goes on standing for its journal.
use Rattle.std.proofs.Common.{◌≡◌, inl, inr, ⊎_elim, ℕ, ◌-◌, ◌≤◌, Option, Bool, true, false, true≢false, List, [], ◌∷◌, ◌++◌, length, take, Some, None, refl, sym, ◌∙◌, ap, subst, arith, length-append}
use Rattle.std.specs.Prelude.{Contains, Result, Ok, Err, OnOk, is_err}
use Rattle.std.proofs.lemmas.List.{take_at, append-nil}
use Rattle.record_log.specs.Device.{LeavesOnly}
use Rattle.record_log.specs.Log.{IsReady, IsBeforeOrAfter, StandsFor, blocks}
use Rattle.record_log.specs.declared.record_log.RecordLog.{RecordLog}
use Rattle.record_log.proofs.LogLemmas.{blocks-append}
use Rattle.desk_core.specs.declared.entry.Entry.{Entry}
use Rattle.entry_record.specs.declared.stored.Stored.{Stored}
use Rattle.journal_store.specs.declared.text.Text.{Text}
use Rattle.journal_store.specs.Kept.{Kept, possible, asked, begun_at, opened_at, settled}
use Rattle.journal_store.specs.Preface.{Front, IsFront}
use Rattle.journal_store.specs.Read.{AreFound}
use Rattle.journal_store.specs.Record.{HasJournal, HoldJournal, IsTextOf, restored_of}
use Rattle.journal_store.specs.Faithful.{IsFaithful, IsOpen, IsOther, LeavesOneOf, HasLeftSince, LogHasLeft, LogLeaves}
use Rattle.journal_store.specs.Turned.{AreTurned}
use Rattle.journal_store.proofs.HoldLemmas.{hold_found}
use Rattle.journal_store.proofs.KeptLemmas.{still_left, left_behind}

-- the blocks of a batch stand behind those of the records before it
pub written_on : (records batch : List (List ℕ)) (old text new : List ℕ) → old ≡ blocks records → text ≡ blocks batch ++ 0 ∷ [] → new ≡ old ++ take (length text - 1) text → new ≡ blocks (records ++ batch)
written_on records batch old text new was is grown =
    grown ∙ ap (λ l. l ++ take (length text - 1) text) was ∙ ap (λ l. blocks records ++ l) front
    ∙ ap (λ l. blocks records ++ l) (sym (append-nil (blocks batch))) ∙ sym (blocks-append records batch []) ∙ append-nil (blocks (records ++ batch))
  where
    front : take (length text - 1) text ≡ blocks batch
    front = ap (λ l. take (length text - 1) l) is ∙ take_at (blocks batch) (0 ∷ []) (length text - 1) (omega (arith, ap length is, length-append (blocks batch) (0 ∷ [])))

-- what was put behind a text is cut off again
pub cut_back : (old more grown now : List ℕ) (before len : ℕ) → before ≡ len → len ≡ length old → grown ≡ old ++ more → now ≡ take before grown → now ≡ old
cut_back old more grown now before len is all whole cut = cut ∙ ap (λ (l : List ℕ). take before l) whole ∙ take_at old more before (sym (is ∙ all))

-- what holds of a call that did not fail
pub did_not_fail : {V E : Type 0} (r : Result V E) {P : Type 0} → OnOk r P → is_err r ≡ false → P
did_not_fail (Ok v) holds tells = holds
did_not_fail (Err e) holds tells = absurd (true≢false tells)

module _ {D : Type 0} (contents : D → List ℕ) (may_leave : D → List ℕ → Type 0) where
  -- of a log that is ready a crash leaves the journal that its records hold
  pub ready_leaves : (start front : Front) (log : RecordLog D) (records : List (List ℕ)) (journal : List Entry) → IsReady contents may_leave log records → HoldJournal start front records journal
      → LeavesOneOf start (may_leave log.device) (journal ∷ [])
  ready_leaves start front log records journal ready hold file left =
      (journal, (0, omega arith, refl), record { front = front; records = records; stands = subst (λ f. StandsFor f records) (sym (ready.durable file left)) (inl ready.file); hold = hold })

  module _ (start front : Front) (records batch : List (List ℕ)) (kept : Kept) (entries : List Entry) (are : HoldJournal start front records kept.journal) (of : HoldJournal start front (records ++ batch) (kept.journal ++ entries)) where
    -- what is before or after a batch is one of the journals that are possible
    pub before_or_after : (file : List ℕ) → IsBeforeOrAfter records batch file → (journal : List Entry) × Contains (possible kept entries) journal × HasJournal start file journal
    before_or_after file (inl before) = (kept.journal, (0, omega arith, refl), record { front = front; records = records; stands = before; hold = are })
    before_or_after file (inr after) = (kept.journal ++ entries, (1, omega arith, refl), record { front = front; records = records ++ batch; stands = after; hold = of })

  -- the log of a store that is open
  pub the_log : (found : Option (RecordLog D)) (log : RecordLog D) (records : List (List ℕ)) → found ≡ Some log → IsOpen contents may_leave found records → IsReady contents may_leave log records
  the_log found log records is ready = subst (λ o. IsOpen contents may_leave o records) is ready

  -- where there is none it is not open
  pub not_open : {P : Type 0} (found : Option (RecordLog D)) (records : List (List ℕ)) → found ≡ None → IsOpen contents may_leave found records → P
  not_open found records is ready = absurd (subst (λ o. IsOpen contents may_leave o records) is ready)

  -- what a crash leaves of it now
  pub log_leaves : (start : Front) (journals : List (List Entry)) (found : Option (RecordLog D)) (log : RecordLog D) → found ≡ Some log → LogLeaves start may_leave found journals
      → LeavesOneOf start (may_leave log.device) journals
  log_leaves start journals found log is crash = subst (λ o. LogLeaves start may_leave o journals) is crash

  module _ (moment : D → ℕ) (left_since : D → ℕ → List ℕ → Type 0) where
    -- and left of it since it was opened
    pub log_has_left : (kept : Kept) (found : Option (RecordLog D)) (log : RecordLog D) → found ≡ Some log → LogHasLeft moment left_since found kept → HasLeftSince moment left_since log.device kept
    log_has_left kept found log is since = subst (λ o. LogHasLeft moment left_since o kept) is since

    abbrev pub Faithful : Option (RecordLog D) → Bool → Text → Option Text → Kept → Type 0
    Faithful = IsFaithful contents may_leave moment left_since

    abbrev OnlyNow : Type 0
    OnlyNow = (device : D) (c : List ℕ) → left_since device (moment device) c → may_leave device c

    abbrev CountsNow : Type 0
    CountsNow = (device : D) (t : ℕ) (c : List ℕ) → t ≤ moment device → may_leave device c → left_since device t c

    -- a device that was opened anew, and is ready
    pub fresh : OnlyNow → (front : Front) (log : RecordLog D) (records : List (List ℕ)) (kept : Kept)
        → IsReady contents may_leave log records → HoldJournal kept.start front records kept.journal → kept.left.now ≡ kept.journal ∷ [] → kept.opened ≡ moment log.device → HasLeftSince moment left_since log.device kept
    fresh only_now front log records kept ready hold now at = record {
      later = omega (arith, at);
      each = λ file left.
          let found = ready_leaves kept.start front log records kept.journal ready hold file (only_now log.device file (subst (λ t. left_since log.device t file) at left)) in
          (found.0, inl (subst (λ l. Contains l found.0) (sym now) found.1), found.2);
    }

    -- a log that is ready behind the records of a text, of a device that was just opened
    pub opened : OnlyNow → (log : RecordLog D) (text : Text) (kept : Kept) (is : IsTextOf kept.start text.preface text.written.items kept.journal)
        → IsReady contents may_leave log is.records → kept.left.now ≡ kept.journal ∷ [] → kept.opened ≡ moment log.device → (is_open : Bool) → Faithful (Some log) is_open text None kept
    opened only_now log text kept is ready now at is_open = record {
      is = is;
      ready = λ _. ready;
      durable = λ _. now;
      alone = λ _. refl;
      crash = subst (LeavesOneOf kept.start (may_leave log.device)) (sym now) (ready_leaves kept.start text.preface log is.records kept.journal ready is.hold);
      since = fresh only_now text.preface log is.records kept ready is.hold now at;
      others = tt;
    }

    -- a store begins
    pub begins : OnlyNow → (log : RecordLog D) (front : Front) (records : List (List ℕ)) (stored : List Stored) (file : List ℕ) (text : Text) (now : Kept)
        → IsReady contents may_leave log records → IsFront front → AreFound front records stored → front.condensed ≤ length stored → file ≡ blocks records ++ 0 ∷ [] → text.written.items ≡ take (length file - 1) file
        → text.preface ≡ front → now ≡ begun_at (moment log.device) front (restored_of stored) → Faithful (Some log) true text None now
    begins only_now log front records stored file text now ready fits read enough is cut fronted at = subst (Faithful (Some log) true text None) (sym at)
        (opened only_now log text (begun_at (moment log.device) front (restored_of stored))
        (record { records = records; whole = written_on [] records [] file text.written.items refl is cut; hold = subst (λ (f : Front). HoldJournal front f records (restored_of stored)) (sym fronted) (hold_found front records stored fits read enough) })
        ready refl refl true)

    -- the one text or the other holds the journal
    pub turned : (kept : Kept) (text new : Text) (other new_other : Option Text) → IsTextOf kept.start text.preface text.written.items kept.journal → IsOther kept other → AreTurned text other new new_other
        → IsTextOf kept.start new.preface new.written.items kept.journal × IsOther kept new_other
    turned kept text new other new_other is others (inl same) = (
      subst (λ (t : Text). IsTextOf kept.start t.preface t.written.items kept.journal) (sym same.0) is,
      subst (λ (o : Option Text). IsOther kept o) (sym same.1) others,
    )
    turned kept text new other new_other is others (inr swapped) = (
      subst (λ (o : Option Text). IsOther kept o) swapped.0 others,
      subst (λ (o : Option Text). IsOther kept o) (sym swapped.1) is,
    )

    -- a file that was to be opened anew
    pub closed : (kept now : Kept) (text new : Text) (other new_other : Option Text) → IsTextOf kept.start text.preface text.written.items kept.journal → IsOther kept other → AreTurned text other new new_other
        → now ≡ asked kept [] → Faithful None false new new_other now
    closed kept now text new other new_other is others turn at =
        let both = turned kept text new other new_other is others turn in
        subst (Faithful None false new new_other) (sym at) (record {
          is = both.0;
          ready = λ no. cc;
          durable = λ no. cc;
          alone = λ no. cc;
          crash = tt;
          since = tt;
          others = both.1;
        })

    pub closed_at : (log : Option (RecordLog D)) (is_open : Bool) (kept now : Kept) (text new : Text) (other new_other : Option Text) → log ≡ None → is_open ≡ false
        → IsTextOf kept.start text.preface text.written.items kept.journal → IsOther kept other → AreTurned text other new new_other → now ≡ asked kept [] → Faithful log is_open new new_other now
    closed_at log is_open kept now text new other new_other none shut is others turn at =
        subst (λ (b : Bool). Faithful log b new new_other now) (sym shut)
        (subst (λ (o : Option (RecordLog D)). Faithful o false new new_other now) (sym none) (closed kept now text new other new_other is others turn at))

    -- and was
    pub reopened : OnlyNow → (log : RecordLog D) (old now : Kept) (text new : Text) (other new_other : Option Text) → IsTextOf old.start text.preface text.written.items old.journal → IsOther old other → AreTurned text other new new_other
        → now ≡ opened_at (settled (asked old []) []) (moment log.device) → ((records : List (List ℕ)) → new.written.items ≡ blocks records → IsReady contents may_leave log records) → Faithful (Some log) true new None now
    reopened only_now log old now text new other new_other is others turn at ready =
        let both = turned old text new other new_other is others turn in
        let again : IsTextOf old.start new.preface new.written.items (old.journal ++ []) = subst (IsTextOf old.start new.preface new.written.items) (sym (append-nil old.journal)) both.0 in
        subst (Faithful (Some log) true new None) (sym at)
        (opened only_now log new (opened_at (settled (asked old []) []) (moment log.device)) again (ready again.records again.whole) refl refl true)

    -- it was written anew, and a log of what it was written on is in the place of its own
    pub replaced : OnlyNow → (log : RecordLog D) (text : Text) (kept now : Kept) (is : IsTextOf kept.start text.preface text.written.items kept.journal) → IsReady contents may_leave log is.records → kept.left.now ≡ kept.journal ∷ []
        → now ≡ opened_at kept (moment log.device) → Faithful (Some log) true text None now
    replaced only_now log text kept now is ready left at = subst (Faithful (Some log) true text None) (sym at)
        (opened only_now log text (opened_at kept (moment log.device)) is ready left refl true)

    -- it was to be written anew, and may have either text
    pub doubtful : (kept : Kept) (text other : Text) → IsTextOf kept.start text.preface text.written.items kept.journal → IsTextOf kept.start other.preface other.written.items kept.journal
        → Faithful None false text (Some other) kept
    doubtful kept text other is too = record {
      is = is;
      ready = λ no. cc;
      durable = λ no. cc;
      alone = λ no. cc;
      crash = tt;
      since = tt;
      others = too;
    }

    -- the same text with another limit
    pub put_off : (log : Option (RecordLog D)) (is_open : Bool) (text new : Text) (other : Option Text) (kept : Kept) → new.preface ≡ text.preface → new.written.items ≡ text.written.items → Faithful log is_open text other kept
        → Faithful log is_open new other kept
    put_off log is_open text new other kept front same known = record {
      is = record {
        records = known.is.records;
        whole = same ∙ known.is.whole;
        hold = subst (λ (f : Front). HoldJournal kept.start f known.is.records kept.journal) (sym front) known.is.hold;
      };
      ready = known.ready;
      durable = known.durable;
      alone = known.alone;
      crash = known.crash;
      since = known.since;
      others = known.others;
    }

    -- a batch was asked for
    module _ (front : Front) (old new : RecordLog D) (records batch : List (List ℕ)) (kept : Kept) (entries : List Entry) (are : HoldJournal kept.start front records kept.journal) (of : HoldJournal kept.start front (records ++ batch) (kept.journal ++ entries))
        (run : LeavesOnly moment left_since old.device new.device (IsBeforeOrAfter records batch)) (since : HasLeftSince moment left_since old.device kept) where
      pub since_asked : HasLeftSince moment left_since new.device (asked kept entries)
      since_asked = record {
        later = omega (arith, since.later, run.later);
        each = λ file left.
            ⊎_elim (λ was. let found = since.each file was in (found.0, still_left kept entries found.0 found.1, found.2))
            (λ one. let found = before_or_after kept.start front records batch kept entries are of file one in (found.0, inl found.1, found.2))
            (run.before kept.opened file since.later left);
      }

      pub since_stored : HasLeftSince moment left_since new.device (settled (asked kept entries) entries)
      since_stored = record {
        later = since_asked.later;
        each = λ file left. let found = since_asked.each file left in (found.0, left_behind kept entries found.0 found.1, found.2);
      }

      -- whatever a crash leaves now of a batch that failed
      pub left_of_batch : CountsNow → LeavesOneOf kept.start (may_leave new.device) (possible kept entries)
      left_of_batch counts_now file left = before_or_after kept.start front records batch kept entries are of file (run.each file (counts_now new.device (moment old.device) file run.later left))

    module _ (text : Text) (old new : RecordLog D) (found : Option (RecordLog D)) (some : found ≡ Some old) (records batch : List (List ℕ)) (kept : Kept) (entries : List Entry) (are : HoldJournal kept.start text.preface records kept.journal)
        (of : HoldJournal kept.start text.preface (records ++ batch) (kept.journal ++ entries)) (run : LeavesOnly moment left_since old.device new.device (IsBeforeOrAfter records batch)) (known : LogHasLeft moment left_since found kept) where
      since : HasLeftSince moment left_since old.device kept
      since = subst (λ o. LogHasLeft moment left_since o kept) some known

      -- a batch that failed
      pub failed : CountsNow → (now : Kept) → text.written.items ≡ blocks records → now ≡ asked kept entries → Faithful (Some new) false text None now
      failed counts_now now whole is = subst (Faithful (Some new) false text None) (sym is) (record {
        is = record { records = records; whole = whole; hold = are };
        ready = λ no. cc;
        durable = λ no. cc;
        alone = λ no. cc;
        crash = left_of_batch text.preface old new records batch kept entries are of run since counts_now;
        since = since_asked text.preface old new records batch kept entries are of run since;
        others = tt;
      })

      -- one that was stored
      pub stored : (is_open : Bool) (now : Kept) → text.written.items ≡ blocks (records ++ batch) → now ≡ settled (asked kept entries) entries
          → IsReady contents may_leave new (records ++ batch) → Faithful (Some new) is_open text None now
      stored is_open now whole is ready = subst (Faithful (Some new) is_open text None) (sym is) (record {
        is = record { records = records ++ batch; whole = whole; hold = of };
        ready = λ _. ready;
        durable = λ _. refl;
        alone = λ _. refl;
        crash = ready_leaves kept.start text.preface new (records ++ batch) (kept.journal ++ entries) ready (of);
        since = since_stored text.preface old new records batch kept entries are of run since;
        others = tt;
      })
