-- Faults that are told on.
use Rattle.std.proofs.Common.{◌≡◌, ℕ, List}
use Rattle.std.specs.Prelude.{Result, Ok, Err, IsErrAnd, IsErrOf}
use Rattle.journal_store.specs.Fault.{of_preface}
use Rattle.journal_store.specs.Preface.{HasNoTitle, IsCutShort, IsFaulty}
use Rattle.journal_store.specs.declared.preface_fault.PrefaceFault.{PrefaceFault}
use Rattle.journal_store.specs.declared.preface_fault.PrefaceFault.TheVariants as prefaces
use Rattle.journal_store.specs.declared.record_fault.RecordFault.{RecordFault}
use Rattle.journal_store.specs.declared.record_fault.RecordFault.TheVariants as faults

-- a call fails as the one that it called
pub told_on : {T U E : Type 0} (called : Result T E) (told : Result U E) (fault other : E) → called ≡ Err fault → IsErrAnd told (λ e. e ≡ fault) → told ≡ Err other → called ≡ Err other
told_on called (Ok v) fault other was gives is = absurd gives
told_on called (Err e) fault other was gives is = cc

-- for want of memory, and for nothing else
starved : {T : Type 0} (told : Result T RecordFault) (other : RecordFault) → IsErrAnd told (λ e. e ≡ faults.Memory) → told ≡ Err other → faults.Memory ≡ other
starved (Ok v) other gives is = absurd gives
starved (Err e) other gives is = cc

module _ {T : Type 0} (told : Result T RecordFault) (gives : IsErrAnd told (λ e. e ≡ faults.Memory)) where
  pub not_by_entry : {P : Type 0} (n : ℕ) → told ≡ Err (faults.NotAnEntry n) → P
  not_by_entry n is = let no : faults.Memory ≡ faults.NotAnEntry n = starved told (faults.NotAnEntry n) gives is in absurd cc

  pub not_by_preface : {P : Type 0} (fault : PrefaceFault) → told ≡ Err (faults.Preface fault) → P
  not_by_preface fault is = let no : faults.Memory ≡ faults.Preface fault = starved told (faults.Preface fault) gives is in absurd cc

  pub not_by_few : {P : Type 0} → told ≡ Err faults.TooFew → P
  not_by_few is = let no : faults.Memory ≡ faults.TooFew = starved told faults.TooFew gives is in absurd cc

-- a fault of a preface
pub is_faulty : {T : Type 0} (read : Result T RecordFault) (found : List (List ℕ)) (fault : PrefaceFault) → (IsErrOf read (faults.Preface prefaces.NoPreface) → HasNoTitle found)
    → (IsErrOf read (faults.Preface prefaces.CutShort) → IsCutShort found) → read ≡ Err (faults.Preface fault) → IsFaulty found fault
is_faulty read found prefaces.Memory none cut is = tt
is_faulty read found prefaces.NoPreface none cut is = none is
is_faulty read found prefaces.CutShort none cut is = cut is
is_faulty read found prefaces.TooLong none cut is = tt

-- a fault of a preface, as it is told on
module _ {T : Type 0} (fault : PrefaceFault) (told : RecordFault) (is : told ≡ of_preface fault) where
  pub told_of_preface : (other : PrefaceFault) → IsErrOf {T = T} (Err told) (faults.Preface other) → fault ≡ other
  told_of_preface other says = of fault is
    where
      of : (f : PrefaceFault) → told ≡ of_preface f → f ≡ other
      of prefaces.Memory was = let no : ⊥ = cc in absurd no
      of prefaces.NoPreface was = cc
      of prefaces.CutShort was = cc
      of prefaces.TooLong was = cc

  pub told_of_no_entry : {P : Type 0} (n : ℕ) → IsErrOf {T = T} (Err told) (faults.NotAnEntry n) → P
  told_of_no_entry n says = absurd (of fault is)
    where
      of : (f : PrefaceFault) → told ≡ of_preface f → ⊥
      of prefaces.Memory was = cc
      of prefaces.NoPreface was = cc
      of prefaces.CutShort was = cc
      of prefaces.TooLong was = cc

  pub told_of_few : {P : Type 0} → IsErrOf {T = T} (Err told) faults.TooFew → P
  told_of_few says = absurd (of fault is)
    where
      of : (f : PrefaceFault) → told ≡ of_preface f → ⊥
      of prefaces.Memory was = cc
      of prefaces.NoPreface was = cc
      of prefaces.CutShort was = cc
      of prefaces.TooLong was = cc
