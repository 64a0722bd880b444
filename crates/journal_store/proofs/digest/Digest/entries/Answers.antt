use Rattle.std.proofs.Common.{◌≡◌, ◌≤◌, ℕ, List, None, Vec, Global, length, sym, subst, ap, ◌∙◌, arith}
use Rattle.std.proofs.lemmas.List.{length-reverse, get_or_past}
use Rattle.desk_core.specs.declared.entry.Entry.{Entry}
use Rattle.desk_core.specs.Past.{past}
use Rattle.journal_store.specs.Digest.{Summary, IsDigest}
use Rattle.journal_store.proofs.FinishLemmas.{ComesTo, digest_stands, comes_running, comes_shut}
use Rattle.journal_store.proofs.digest.Digest.entries.Goals.{then-self+in_ok-push, else-self}
use Rattle.journal_store.proofs.digest.Digest.entries.Goals as goal

-- what was made comes to the same as the history
comes : (c : goal.Joined-self) (history : List Entry) → IsDigest c.args.self.now history → ComesTo history (past c.if-self.entries.items)
comes c history is =
    let digest = c.args.self.now in
    let made = c.in_ok-entries.ensures (digest_stands digest history is) in
    let Long : Summary → Type 0 = λ summary. length summary.probes ≡ 16 in
    let long = subst Long c.self.view_is c.self.invariant in
    let none = λ (i : ℕ) (past_it : 16 ≤ i). get_or_past digest.probes i None (omega (arith, long, past_it)) in
    let P : Vec Entry Global → Type 0 = λ v. ComesTo history (past v.items) in
    elim c.if-self.branch [
      | then-self+in_ok-push w ↦
          subst P (sym w.entries-is)
          (comes_shut digest history (past c.in_ok-entries.entries.items) _ is made none (ap (λ (s : Summary). s.is_shut) (sym c.self.view_is) ∙ w.if-self.true) w.in_ok-push.ensures)
      | else-self w ↦
          subst P (sym w.entries-is)
          (comes_running digest history (past c.in_ok-entries.entries.items) is made none (ap (λ (s : Summary). s.is_shut) (sym c.self.view_is) ∙ w.if-self.false))
    ]

pub returns-clause-legal : goal.returns-clause-legal
returns-clause-legal c history is = (comes c history is).legal

pub returns-clause-alike : goal.returns-clause-alike
returns-clause-alike c history is = (comes c history is).alike

pub returns-clause-seats : goal.returns-clause-seats
returns-clause-seats c history is = (comes c history is).seats

pub returns-clause-few : goal.returns-clause-few
returns-clause-few c history is = omega (arith, (comes c history is).few, length-reverse c.if-self.entries.items, c.if-self.entries.ok)

pub returns-clause-fewest : goal.returns-clause-fewest
returns-clause-fewest c history other is alike = omega (arith, (comes c history is).fewest other alike, length-reverse c.if-self.entries.items, c.if-self.entries.ok)
