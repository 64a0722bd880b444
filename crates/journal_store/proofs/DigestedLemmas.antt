-- What is said of the entries of a file that are taken into a digest.
use Rattle.std.proofs.Common.{◌≡◌, ℕ, ◌+◌, ◌<◌, List, [], ◌∷◌, length, get_or, take, drop, sym, ◌∙◌, ap, subst}
use Rattle.std.proofs.lemmas.List.{map-append, reverse-append, take-append-drop}
use Rattle.desk_core.specs.declared.entry.Entry.{Entry}
use Rattle.desk_core.specs.Legal.{IsLegal}
use Rattle.desk_core.specs.Past.{past}
use Rattle.desk_core.proofs.LawLemmas.{legal_front}
use Rattle.entry_record.specs.declared.stored.Stored.{Stored}
use Rattle.journal_store.specs.Record.{restored, restored_of}
use Rattle.journal_store.proofs.RestoreLemmas.{one_more}

-- one more of them
pub one_past : (all : List Stored) (i : ℕ) (one : Stored) → i < length all → one ≡ get_or all i one → past (restored_of (take (i + 1) all)) ≡ restored one ∷ past (restored_of (take i all))
one_past all i one inside is = ap past (sym (one_more all i one inside is)) ∙ reverse-append (restored_of (take i all)) (restored one ∷ [])

-- the first of them are legal
pub first_legal : (all : List Stored) (n : ℕ) → IsLegal (past (restored_of all)) → IsLegal (past (restored_of (take n all)))
first_legal all n legal = legal_front (restored_of (take n all)) (restored_of (drop n all))
    (subst (λ (l : List Entry). IsLegal (past l)) (sym (ap restored_of (take-append-drop n all)) ∙ map-append restored (take n all) (drop n all)) legal)
