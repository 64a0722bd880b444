-- What a step makes of what a store keeps.
use Rattle.journal_store.specs.declared.told.Step.{Step}
use Rattle.journal_store.specs.declared.told.Step.TheVariants.{Begun, Asked, Settled}
use Rattle.journal_store.specs.Kept.{Kept, begun, asked, settled}
use Rattle.journal_store.specs.Record.{restored_of}

-- what it keeps behind the step
abbrev pub behind : Kept → Step → Kept
behind kept (Begun front stored) = begun kept front.now (restored_of stored.now)
behind kept (Asked entries) = asked kept entries.now
behind kept (Settled entries) = settled kept entries.now
