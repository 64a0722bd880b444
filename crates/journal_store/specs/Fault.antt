-- What reading a file tells of a fault of its preface.
use Rattle.journal_store.specs.declared.preface_fault.PrefaceFault.{PrefaceFault}
use Rattle.journal_store.specs.declared.preface_fault.PrefaceFault.TheVariants as prefaces
use Rattle.journal_store.specs.declared.record_fault.RecordFault.{RecordFault}
use Rattle.journal_store.specs.declared.record_fault.RecordFault.TheVariants.{Memory, Preface}

-- want of memory is told alike wherever it is met
abbrev pub of_preface : PrefaceFault → RecordFault
of_preface prefaces.Memory = Memory
of_preface prefaces.NoPreface = Preface prefaces.NoPreface
of_preface prefaces.CutShort = Preface prefaces.CutShort
of_preface prefaces.TooLong = Preface prefaces.TooLong
