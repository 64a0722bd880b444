use Rattle.std.proofs.Common.{◌≡◌, ◌+◌, ◌<◌, ◌∷◌, List, length, take, drop, sym, subst, ap, ◌∙◌, arith}
use Rattle.std.proofs.lemmas.List.{take_more, take-append-drop, length-reverse, length-take-le}
use Rattle.desk_core.specs.declared.entry.Entry.{Entry}
use Rattle.desk_core.specs.Legal.{IsLegal}
use Rattle.desk_core.specs.Past.{past}
use Rattle.desk_core.proofs.HistoryLemmas.{past_more}
use Rattle.desk_core.proofs.LawLemmas.{legal_front}
use Rattle.journal_store.specs.Digest.{IsDigest}
use Rattle.journal_store.proofs.digest.Digest.of.Goals as goal

pub loop-entry-preserved : goal.loop-entry-preserved
loop-entry-preserved c =
    let journal = c.args.journal.now in
    let i = c.loop-entry.entry-index in
    let entry = c.entry-item.result in
    let before = past (take i journal) in
    let below : i < length journal = omega (arith, c.loop-entry-test.true) in
    let more : past (take (i + 1) journal) ≡ entry ∷ before = ap past (take_more journal i entry below)
    ∙ past_more (take i journal) _ ∙ ap (λ (e : Entry). e ∷ before) (sym c.entry-item.is) in
    let Legal : List Entry → Type 0 = λ entries. IsLegal entries in
    let Whole : List Entry → Type 0 = λ entries. IsLegal (past entries) in
    let legal = subst Legal more (legal_front (take (i + 1) journal) (drop (i + 1) journal) (subst Whole (sym (take-append-drop (i + 1) journal)) c.requires)) in
    let Of : List Entry → Type 0 = λ entries. IsDigest c.note.new.self entries in
    subst Of (sym more)
    (c.note.ensures before c.loop-entry.invariant legal (omega (arith, below, length-reverse (take i journal), length-take-le i journal (omega (arith, below)))))
