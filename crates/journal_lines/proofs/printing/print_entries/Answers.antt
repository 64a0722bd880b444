use Rattle.std.proofs.Common.{[], subst}
use Rattle.std.proofs.KnownBytes.{Appends-nil}
use Rattle.std.specs.Prelude.{IfNone}
use Rattle.record_log.specs.Log.{StandsFor}
use Rattle.journal_lines.proofs.LineLemmas.{nothing_printed}
use Rattle.journal_lines.proofs.printing.print_entries.Goals as goal

pub returns-in-Ok-None-clause-lines : goal.returns-in-Ok-None-clause-lines
returns-in-Ok-None-clause-lines g c = λ plain.
    let file = c.args.file.now in
    let stands = subst (λ o. IfNone o (StandsFor file [])) c.in-Ok-None.field-0-is c.in-Ok-None.ensures.none in
    ([], nothing_printed file stands, Appends-nil (g.O.Write.contents c.args.output.now))
