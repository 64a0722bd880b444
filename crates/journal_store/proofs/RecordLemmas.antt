-- What is said of the records of entries.
use Rattle.std.proofs.Common.{◌≡◌, ℕ, ◌+◌, ◌<◌, ◌≤◌, ◌==◌, true, false, true≢false, List, [], ◌∷◌, ◌++◌, Vec, length, length-append, get_or, take, inl, inr, refl, sym, ◌∙◌, ap, subst, arith, append_assoc}
use Rattle.std.specs.Prelude.{All}
use Rattle.std.specs.declared.alloc.Global.{Global}
use Rattle.std.proofs.lemmas.Bool.{eqb-true}
use Rattle.std.proofs.lemmas.List.{map-append, take_more}
use Rattle.std.proofs.lemmas.List.Elements.{All-append}
use Rattle.record_log.specs.Log.{StandsFor, blocks, texts}
use Rattle.record_log.proofs.LawLemmas.{one}
use Rattle.desk_core.specs.declared.entry.Entry.{Entry}
use Rattle.entry_record.specs.declared.stored.Stored.{Stored}
use Rattle.journal_store.specs.Preface.{Front, preface_of}
use Rattle.journal_store.specs.Read.{AreFound}
use Rattle.journal_store.specs.Record.{IsRecordOf, AreRecords, AreOf, AreAdded, restored_of}
use Rattle.journal_store.proofs.ReadLemmas.{are_records}

-- two lists of records are of two lists of entries
pub all_records : (records more : List (List ℕ)) (entries later : List Entry) → AreRecords records entries → AreRecords more later → AreRecords (records ++ more) (entries ++ later)
all_records [] more [] later first second = second
all_records [] more (e ∷ entries) later first second = absurd first
all_records (r ∷ records) more [] later first second = absurd first
all_records (r ∷ records) more (e ∷ entries) later first second = (first.0, all_records records more entries later first.1 second)

-- one more
pub one_record : (records : List (List ℕ)) (entries : List Entry) (i : ℕ) (record_is : List ℕ) (entry : Entry) → i < length entries → entry ≡ get_or entries i entry
    → AreRecords records (take i entries) → IsRecordOf record_is entry → AreRecords (records ++ record_is ∷ []) (take (i + 1) entries)
one_record records entries i record_is entry inside is so_far next =
    subst (AreRecords (records ++ record_is ∷ [])) (sym (take_more entries i entry inside))
    (all_records records (record_is ∷ []) (take i entries) (get_or entries i entry ∷ []) so_far (subst (IsRecordOf record_is) is next, tt))

-- blocks are of one list of records
pub one_list : (these those : List (List ℕ)) → blocks these ≡ blocks those → these ≡ those
one_list these those same =
    one (blocks these ++ 0 ∷ []) these those (inl (record { gate = 0; rest = []; shut = omega arith; whole = ap (λ l. blocks these ++ l) (ap (λ (n : ℕ). n ∷ []) (omega arith)) }))
    (inl (record { gate = 0; rest = []; shut = omega arith; whole = ap (λ l. l ++ 0 ∷ []) same }))

-- the records of a file that has these blocks and a closed gate
pub the_records : (file : List ℕ) (records found : List (List ℕ)) → file ≡ blocks records ++ 0 ∷ [] → StandsFor file found → found ≡ records
the_records file records found is stands = one file found records stands (inl (record { gate = 0; rest = []; shut = omega arith; whole = is }))

-- what was found is of the entries that a restart makes of it
pub are_of : (front : Front) (records : List (List ℕ)) (stored : List Stored) → AreFound front records stored → AreOf front records (restored_of stored)
are_of front [] stored found = inl (refl, ap restored_of found)
are_of front (first ∷ records) stored found = inr (found.0, found.1, are_records found.0 stored found.2)

-- entries are put behind those of a file
pub are_added : (front : Front) (records batch : List (List ℕ)) (journal entries : List Entry) → AreOf front records journal → AreAdded front (blocks records) batch entries → AreOf front (records ++ batch) (journal ++ entries)
are_added front [] batch journal entries (inl (none, new)) added = inr (added.0, added.1, subst (λ (j : List Entry). AreRecords added.0 (j ++ entries)) (sym new) added.2)
are_added front [] batch journal entries (inr (behind, is, are)) added = let no : [] ≡ preface_of front ++ behind = is in absurd cc
are_added front (r ∷ records) batch journal entries (inl (none, new)) added = let no : r ∷ records ≡ [] = none in absurd cc
are_added front (r ∷ records) batch journal entries (inr (behind, is, are)) added =
    inr (behind ++ batch, ap (λ (l : List (List ℕ)). l ++ batch) is ∙ append_assoc (preface_of front) behind batch, all_records behind batch journal entries are added)

-- records behind blocks
pub added_behind : (front : Front) (written : List ℕ) (batch : List (List ℕ)) (entries : List Entry) → false ≡ (length written == 0) → AreRecords batch entries → AreAdded front written batch entries
added_behind front [] batch entries some are = absurd (true≢false (sym some))
added_behind front (byte ∷ written) batch entries some are = are

-- the records of a preface, and others behind them
module _ (first more all : List (Vec ℕ Global)) (whole : all ≡ first ++ more) where
  pub added_first : (front : Front) (written : List ℕ) (entries : List Entry) → true ≡ (length written == 0) → texts first ≡ preface_of front → AreRecords (texts more) entries → AreAdded front written (texts all) entries
  added_first front [] entries none is are = (texts more, ap texts whole ∙ map-append (λ (e : Vec ℕ Global). e.items) first more ∙ ap (λ l. l ++ texts more) is, are)
  added_first front (byte ∷ written) entries none is are = absurd (omega (arith, eqb-true (length (byte ∷ written)) 0 (sym none)))

  pub short_first : All (λ bytes. length bytes.items < 256) first → All (λ bytes. length bytes.items < 256) more → All (λ bytes. length bytes.items < 256) all
  short_first short later =
      let P : Vec ℕ Global → Type 0 = λ bytes. length bytes.items < 256 in
      subst (All P) (sym whole) (All-append P first more short later)

  pub as_many_first : (entries : List Entry) → length more ≡ length entries → length entries ≤ length all
  as_many_first entries as_many = omega (arith, as_many, ap length whole, length-append first more)
