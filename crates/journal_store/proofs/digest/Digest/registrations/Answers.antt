use Rattle.std.proofs.Common.{◌≡◌, ◌+◌, ◌<◌, ℕ, Option, slice_index_or, Vec, Global, sym, subst, ap, ◌∙◌, arith}
use Rattle.std.specs.Prelude.{IfSome}
use Rattle.desk_core.specs.declared.entry.Entry.{Entry}
use Rattle.desk_core.specs.Past.{past}
use Rattle.journal_store.specs.Digest.{Summary}
use Rattle.journal_store.specs.Short.{AllCanStand, IsMade}
use Rattle.journal_store.proofs.ShortLemmas.{made_next, made_past}
use Rattle.journal_store.proofs.digest.Digest.registrations.Goals.{in-Some+in_ok-push_known-in-Some, in-None}
use Rattle.journal_store.proofs.digest.Digest.registrations.Goals as goal

pub loop-number-preserved : goal.loop-number-preserved
loop-number-preserved c stands =
    let probes = c.self.inside.slots in
    let below : c.loop-number.number < 16 = omega (arith, c.loop-number-test.true) in
    let P : Vec Entry Global → Type 0 = λ v. IsMade probes (c.loop-number.number + 1) (past v.items) in
    elim c.match-self-from.branch [
      | in-Some+in_ok-push_known-in-Some w ↦
          let Slot : Option ℕ → Type 0 = λ o. IfSome o (λ slot. slot ≡ c.loop-number.number) in
          let slot = subst Slot w.unwrap.ensures w.new.ensures.value in
          subst P (sym w.entries-is)
          (made_next probes c.loop-number.number w.unwrap.result c.index-self-from.result w.in-Some.known (past c.loop-number.entries.items) _ (c.loop-number.invariant stands) stands
          c.self.invariant below slot
          (ap (λ n. slice_index_or probes n c.index-self-from.result) (sym c.from.ensures) ∙ w.in-Some.is) w.in_ok-push_known-in-Some.ensures)
      | in-None w ↦
          subst P (sym w.entries-is)
          (made_past probes c.loop-number.number c.index-self-from.result (past c.loop-number.entries.items) (c.loop-number.invariant stands) c.self.invariant below
          (ap (λ n. slice_index_or probes n c.index-self-from.result) (sym c.from.ensures) ∙ w.in-None.is))
    ]

pub returns : goal.returns
returns c stands =
    let Of : Summary → Type 0 = λ digest. AllCanStand digest.probes → IsMade digest.probes c.loop-number.number (past c.loop-number.entries.items) in
    let all : c.loop-number.number ≡ 16 = omega (arith, c.loop-number-test.false, c.loop-number.auto.number-end) in
    let At : ℕ → Type 0 = λ n. IsMade c.args.self.now.probes n (past c.loop-number.entries.items) in
    subst At all (subst Of c.self.view_is c.loop-number.invariant stands)
