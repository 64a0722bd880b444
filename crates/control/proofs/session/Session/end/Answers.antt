use Rattle.std.proofs.Common.{◌≡◌, ◌<◌, ◌++◌, ◌∷◌, [], true, length, ap, sym, subst, ◌∙◌, arith}
use Rattle.control.specs.Session.{ends_open, first_line, IsWithin}
use Rattle.control.proofs.LineLemmas.{closed_fits, closed_with}
use Rattle.control.proofs.session.Session.end.Goals.{then-ends_open+then-line_len-lt-MOST_UNREAD, else-ends_open, else-ends_open-via-then-ends_open+else-line_len-lt-MOST_UNREAD, else-ends_open-via-else-ends_open}
use Rattle.control.proofs.session.Session.end.Goals as goal

pub invariant_of-self : goal.invariant_of-self
invariant_of-self c = elim c.if-ends_open.branch [
  | then-ends_open+then-line_len-lt-MOST_UNREAD w ↦
      let before = c.self.inside.unread.items in
      let items : w.push.new.self.items ≡ before ++ 10 ∷ [] = rw w.unwrap.ensures at w.push.ensures.items in
      let open_ : ends_open before ≡ true = sym (rw c.deref.ensures.value at c.ends_open.ensures) ∙ w.if-ends_open.true in
      let short : length (first_line before) < 1025 = omega (arith, w.if-line_len-lt-MOST_UNREAD.true, rw w.deref-then-ends_open.ensures.value at w.line_len.ensures.value) in
      rw w.self-inside-is (subst IsWithin (sym items) (closed_fits before c.self.invariant.0 open_ short), omega (arith, w.push.ensures.capacity, c.self.invariant.1), c.self.invariant.2)
  | else-ends_open w ↦ rw w.self-inside-is c.self.invariant
]

pub returns-clause-closed : goal.returns-clause-closed
returns-clause-closed c = elim c.if-ends_open.branch [
  | then-ends_open+then-line_len-lt-MOST_UNREAD w ↦ λ short.
      rw w.self-inside-is (ap ends_open (rw w.unwrap.ensures at w.push.ensures.items) ∙ closed_with c.self.inside.unread.items)
  | else-ends_open w ↦ λ short. elim w.else-ends_open.branch [
    | else-ends_open-via-then-ends_open+else-line_len-lt-MOST_UNREAD x ↦
        absurd (omega (arith, rw w.self-inside-is at short, x.if-line_len-lt-MOST_UNREAD.false, rw x.deref-then-ends_open.ensures.value at x.line_len.ensures.value))
    | else-ends_open-via-else-ends_open x ↦ rw w.self-inside-is (sym (rw c.deref.ensures.value at c.ends_open.ensures) ∙ x.if-ends_open.false)
  ]
]
