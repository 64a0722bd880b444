-- What is read in a file that a crash left.
use Rattle.std.proofs.Common.{◌≡◌, ℕ, ◌+◌, ◌<◌, inl, inr, List, [], ◌∷◌, ◌++◌, length, sym, ◌∙◌, ap, subst, arith, length-append}
use Rattle.std.proofs.lemmas.List.{length-map}
use Rattle.record_log.proofs.LawLemmas.{one}
use Rattle.desk_core.specs.declared.entry.Entry.{Entry}
use Rattle.desk_core.specs.Legal.{IsLegal}
use Rattle.desk_core.specs.Past.{past}
use Rattle.journal_store.specs.Alike.{AreAlike}
use Rattle.journal_store.proofs.AlikeLemmas.{alike_joined}
use Rattle.entry_record.specs.declared.stored.Stored.{Stored}
use Rattle.journal_store.specs.Again.{IsReadAgain}
use Rattle.journal_store.specs.Preface.{Front, IsFront, preface_of}
use Rattle.journal_store.specs.Read.{AreFound, AreRead}
use Rattle.journal_store.specs.Record.{AreOf, HoldJournal, restored, restored_of}
use Rattle.journal_store.proofs.SeatLemmas.{unseated, unseated_of, same_entries, seats_legal, seats_alike}
use Rattle.journal_store.proofs.StandingLemmas.{as_one}
use Rattle.journal_store.proofs.TitleLemmas.{one_front}

-- the entries that are read are those of the file, but for their seats, and so is the preface where there are any
record AreThose (front now : Front) (stored : List Stored) (entries : List Entry) : Type 0 where
  pub same : restored_of stored ≡ unseated_of entries
  pub front_is : 0 < length stored → now ≡ front

module _ (front now : Front) (fits : IsFront front) (fit : IsFront now) (stored : List Stored) (entries : List Entry) where
  in_file : (found : List (List ℕ)) → AreFound front found stored → AreOf now found entries → AreThose front now stored entries
  in_file [] read (inl (none, new)) = record {
    same = ap restored_of read ∙ sym (ap unseated_of new);
    front_is = λ some. absurd (omega (arith, some, ap length read));
  }
  in_file [] read (inr (behind, whole, are)) = let no : [] ≡ preface_of now ++ behind = whole in absurd cc
  in_file (first ∷ records) read (inl (none, new)) = let no : first ∷ records ≡ [] = none in absurd cc
  in_file (first ∷ records) read (inr (behind, whole, are)) =
      let both = one_front front now read.0 behind fits fit (sym read.1 ∙ whole) in record {
        same = same_entries behind stored entries (subst (λ (l : List (List ℕ)). AreRead l stored) both.1 read.2) are;
        front_is = λ some. sym both.0;
      }

module _ (start front : Front) (journal : List Entry) (stored : List Stored) (known : IsReadAgain start front journal stored) where
  abbrev hold : HoldJournal start known.has.front known.has.records journal
  hold = known.has.hold

  those : AreThose front known.has.front stored hold.entries
  those = in_file front known.has.front known.fits hold.fits stored hold.entries known.found known.read
      (subst (λ (l : List (List ℕ)). AreOf known.has.front l hold.entries) (one known.file known.has.records known.found known.has.stands known.stands) hold.are)

  pub alike_again : IsLegal (past (restored_of stored)) → IsLegal (past journal) × AreAlike (past (restored_of stored)) (past journal)
  alike_again legal =
      let unseated_legal = subst (λ (l : List Entry). IsLegal (past l)) those.same legal in
      let both = as_one start known.has.front hold.entries journal hold.stand (seats_legal hold.entries unseated_legal) in (
        both.0,
        subst (λ (l : List Entry). AreAlike (past l) (past journal)) (sym those.same)
            (alike_joined (past (unseated_of hold.entries)) (past hold.entries) (past journal) (seats_alike hold.entries unseated_legal) both.1),
      )

  many : length stored ≡ length hold.entries
  many = sym (length-map stored restored) ∙ ap length those.same ∙ length-map hold.entries unseated

  pub counted_again : 0 < length stored → front.base + length stored ≡ start.base + length journal
  counted_again some =
      let stand = hold.stand in
      omega (arith, many, stand.base, ap (λ (f : Front). f.base) (those.front_is some), ap length stand.whole, ap length stand.file, length-append stand.older stand.newer, length-append stand.short stand.newer)
