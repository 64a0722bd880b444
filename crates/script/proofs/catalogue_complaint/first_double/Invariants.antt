use Rattle.std.proofs.Common.{◌≡◌, length}
use Rattle.script.specs.CatalogueComplaint.{first_double}
use Rattle.script.specs.TextLines.{texts}
use Rattle.script.proofs.catalogue_complaint.first_double.Given as goal

abbrev pub invariant-words : goal.invariant-words
invariant-words l = first_double (texts l.rest) ≡ first_double (texts l.fn.words)

abbrev pub decreases-words : goal.decreases-words
decreases-words l = length l.rest
