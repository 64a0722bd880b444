-- Lines that are none of a session, and all others.
use Rattle.std.proofs.Common.{ℕ, ◌≡◌, inl, inr, List, sym, ap, ◌∙◌}
use Rattle.std.proofs.lemmas.Option.{none-some}
use Rattle.std.specs.Prelude.{Option, Result}
use Rattle.desk_core.specs.declared.call.Call.{Call}
use Rattle.desk_core.specs.declared.entry.Entry.{Entry}
use Rattle.desk_core.specs.declared.refusal.Refusal.{Refusal}
use Rattle.desk_core.specs.declared.reply.Reply.{Reply}
use Rattle.control.specs.declared.answer.Answer.{Answer}
use Rattle.control.specs.declared.answer.Answer.TheVariants.{NotASession}
use Rattle.control.specs.declared.expected.Expected.{Expected}
use Rattle.control.specs.declared.session_terms.SessionTerms.{SessionTerms}
use Rattle.control.specs.declared.stats.Counts.{Counts}
use Rattle.control.specs.Beside.{IsLineMetBeside, IsTextMetBeside}
use Rattle.control.specs.Text.{IsTold, short_text}
use Rattle.control.specs.Text.IsTold.{AsItIs, CutShort}
use Rattle.control.specs.WebLine.{IsForeign}
use Rattle.control.proofs.MeetingLemmas.{still_met}

-- that a line is none of a session is told as it is
told_so : (answer told : Answer) → answer ≡ NotASession → IsTold answer told → told ≡ NotASession
told_so answer told is AsItIs = is
told_so answer told is (CutShort none skipped) = absurd (none-some _ (sym none ∙ ap short_text is))

module _ {C V : Type 0} {seen : C → List Entry} {kept : Option ℕ} {looks : C → C → Type 0} {changes : C → C → Option Call → Result Reply Refusal → Type 0} {terms : V → SessionTerms} {counted : V → Counts → Type 0}
    {woken : V → V → Type 0} {expected : V → V → Expected → Type 0} {stopped : V → V → Type 0} {names : List (List ℕ)} {old new : C × V} {line : List ℕ} {answer : Answer} where
  -- a line that is none of a session is told so
  pub foreign : IsLineMetBeside seen kept looks changes terms counted woken expected stopped names old new line answer → IsForeign (terms old.1) line
      → (answer ≡ NotASession) × (new ≡ old)
  foreign (inl told) is = (told.1, told.2)
  foreign (inr met) is = absurd (met.0 is)

  -- any other line is met
  pub own : IsLineMetBeside seen kept looks changes terms counted woken expected stopped names old new line answer → ¬ IsForeign (terms old.1) line
      → IsTextMetBeside seen kept looks changes terms counted woken expected stopped names old new line answer
  own (inl told) is_not = absurd (is_not told.0)
  own (inr met) is_not = met.1

  -- what is told of an answer is told of its line
  pub still_told : (told : Answer) → IsLineMetBeside seen kept looks changes terms counted woken expected stopped names old new line answer → IsTold answer told
      → IsLineMetBeside seen kept looks changes terms counted woken expected stopped names old new line told
  still_told told (inl was) is = inl (was.0, told_so answer told was.1 is, was.2)
  still_told told (inr met) is = inr (met.0, still_met _ _ _ _ _ _ _ _ _ _ _ _ _ _ met.1 is)
