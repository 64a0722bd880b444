use Rattle.std.proofs.Common.{refl}
use Rattle.journal_store.proofs.FaithfulLemmas.{put_off}
use Rattle.journal_store.proofs.journal_store.JournalStore.with_least.Goals as goal

pub invariant_of-self : goal.invariant_of-self
invariant_of-self g c =
    let D = g.M.Device.Device in
    let inside = c.self.inside in
    put_off D.contents D.may_leave D.moment D.left_since inside.log inside.is_open inside.text _ inside.other inside.told.kept refl refl c.self.invariant
