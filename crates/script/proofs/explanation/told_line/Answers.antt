use Rattle.std.proofs.Common.{Some, None, string_bytes, sym, ap, ◌∙◌}
use Rattle.std.proofs.lemmas.List.{append-nil}
use Rattle.script.proofs.ExplanationLemmas.{told}
use Rattle.script.proofs.explanation.told_line.Goals as goal
use Rattle.script.proofs.explanation.told_line.Goals.{in-Some+in_ok-write-2, in_default}

pub returns : goal.returns
returns c =
    elim c.match-complaint.branch [
      | in-Some+in_ok-write-2 w ↦ rw w.in-Some.is
          (told c.args.number c.args.line.now _ _ _ (Some w.in-Some.complaint) c.new-told.ensures.bytes c.in_ok-write.ensures.bytes (ap string_bytes w.told-is ∙ w.in_ok-write-2.ensures.bytes))
      | in_default w ↦ rw w.in_default.is
          (told c.args.number c.args.line.now _ _ _ None c.new-told.ensures.bytes c.in_ok-write.ensures.bytes (ap string_bytes w.told-is ∙ sym (append-nil _)))
    ]
