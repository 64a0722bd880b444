-- Seats tell nothing of what a history comes to.
use Rattle.std.proofs.Common.{◌≡◌, ℕ, List, [], ◌∷◌, ◌++◌, refl, sym, ◌∙◌, ap, subst}
use Rattle.std.specs.Prelude.{map}
use Rattle.desk_core.specs.declared.entry.Entry.{Entry}
use Rattle.desk_core.specs.Legal.{IsLegal}
use Rattle.desk_core.specs.Mutation.{entry_of}
use Rattle.desk_core.specs.Past.{past}
use Rattle.journal_store.specs.Alike.{AreAlike}
use Rattle.journal_store.proofs.AlikeLemmas.{alike_itself, alike_step, reply_same}
use Rattle.std.proofs.lemmas.List.{map-append, reverse-append}
use Rattle.entry_record.specs.declared.stored.Stored.{Stored}
use Rattle.entry_record.proofs.Readings.{one_value}
use Rattle.journal_store.specs.Read.{AreRead}
use Rattle.journal_store.specs.Record.{IsRecordOf, AreRecords, restored, restored_of}

-- an entry as the first seat would make it
abbrev pub unseated : Entry → Entry
unseated entry = entry_of 0 entry.call entry.reply

abbrev pub unseated_of : List Entry → List Entry
unseated_of entries = map unseated entries

-- a history is as legal as that of the first seat, and is alike to it
both : (history : List Entry) → IsLegal (unseated_of history) → IsLegal history × AreAlike (unseated_of history) history
both [] legal = (tt, alike_itself [])
both (entry ∷ older) legal =
    let rest = both older legal.0 in
    let step = alike_step entry (unseated_of older) older rest.1 legal.0 rest.0 in (
      (rest.0, legal.1 ∙ reply_same (unseated_of older) older entry.call rest.1, legal.2),
      record { probes = λ i. step.probes i; shut = step.shut },
    )

past_of : (entries : List Entry) → past (unseated_of entries) ≡ unseated_of (past entries)
past_of [] = refl
past_of (entry ∷ entries) =
    reverse-append (unseated entry ∷ []) (unseated_of entries) ∙ ap (λ (l : List Entry). l ++ unseated entry ∷ []) (past_of entries)
    ∙ sym (map-append unseated (past entries) (entry ∷ [])) ∙ ap unseated_of (sym (reverse-append (entry ∷ []) entries))

pub seats_legal : (entries : List Entry) → IsLegal (past (unseated_of entries)) → IsLegal (past entries)
seats_legal entries legal = (both (past entries) (subst IsLegal (past_of entries) legal)).0

pub seats_alike : (entries : List Entry) → IsLegal (past (unseated_of entries)) → AreAlike (past (unseated_of entries)) (past entries)
seats_alike entries legal = subst (λ (l : List Entry). AreAlike l (past entries)) (sym (past_of entries)) (both (past entries) (subst IsLegal (past_of entries) legal)).1

-- what was read in a record of an entry
one_entry : (bytes : List ℕ) (stored : Stored) (entry : Entry) → AreRead (bytes ∷ []) (stored ∷ []) → IsRecordOf bytes entry → restored stored ≡ unseated entry
one_entry bytes stored entry read is =
    let same : stored ≡ is.stored = one_value stored is.stored read.0 is.ranged (sym read.1 ∙ is.whole) in
    ap restored same ∙ ap (λ c. entry_of 0 c is.stored.entry.reply) is.call ∙ ap (λ r. entry_of 0 entry.call r) is.reply

-- what was read in records of entries is what the first seat would make
pub same_entries : (records : List (List ℕ)) (stored : List Stored) (entries : List Entry) → AreRead records stored → AreRecords records entries → restored_of stored ≡ unseated_of entries
same_entries [] [] [] read are = refl
same_entries [] [] (e ∷ entries) read are = absurd are
same_entries [] (s ∷ stored) entries read are = absurd read
same_entries (r ∷ records) [] entries read are = absurd read
same_entries (r ∷ records) (s ∷ stored) [] read are = absurd are
same_entries (r ∷ records) (s ∷ stored) (e ∷ entries) read are =
    ap (λ (x : Entry). x ∷ restored_of stored) (one_entry r s e (read.0, read.1, tt) are.0) ∙ ap (λ (l : List Entry). unseated e ∷ l) (same_entries records stored entries read.2 are.1)
