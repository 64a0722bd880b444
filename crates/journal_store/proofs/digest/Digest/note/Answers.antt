use Rattle.std.proofs.Common.{subst, sym, arith}
use Rattle.journal_store.specs.Digest.{Summary, IsDigest}
use Rattle.journal_store.proofs.DigestLemmas.{digest_more}
use Rattle.journal_store.proofs.digest.Digest.note.Goals as goal

pub returns : goal.returns
returns c history digest legal few =
    let P : Summary → Type 0 = λ summary. IsDigest summary history in
    let before = subst P (sym c.self.view_is) digest in
    let counted = c.saturating_add-self-inside.ensures in
    digest_more _ _ c.args.entry.now history before legal c.note_call.ensures c.shut_after-self-inside.ensures (omega (arith, few, counted, before.len))
