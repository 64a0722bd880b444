-- The records in front of the entries of a journal's file: its preface. A number of several bytes has its lowest byte first. A record has
-- at most 255 bytes. A file with no record at all has no preface and no entry.
use Rattle.std.specs.Prelude.{◌≡◌, ℕ, ◌+◌, ◌^◌, ◌<◌, ◌≤◌, List, [], ◌∷◌, ◌++◌, length, All, codes}
use Rattle.std.specs.Int.{w32, w64, to_le_bytes}
use Rattle.journal_store.specs.declared.preface_fault.PrefaceFault.{PrefaceFault}
use Rattle.journal_store.specs.declared.preface_fault.PrefaceFault.TheVariants.{Memory, NoPreface, CutShort, TooLong}

-- the catalogue's names in its order; how many entries of the whole history are not in the file one by one, but for those that stand for
-- them; and how many of the first entries in the file stand for older ones
pub record Front : Type 0 where
  pub names : List (List ℕ)
  pub base : ℕ
  pub condensed : ℕ

-- of a new file with these names
abbrev pub new_of : List (List ℕ) → Front
new_of names = record { names = names; base = 0; condensed = 0 }

-- the numbers are in their ranges, and there are at most 16 names, of at most 255 bytes
pub record IsFront (front : Front) : Type 0 where
  pub few : length front.names ≤ 16
  pub short : All (λ name. length name < 256) front.names
  pub base : front.base < 2 ^ 64
  pub condensed : front.condensed < 2 ^ 32

-- the first record: this text, the two numbers in eight bytes and in four, and in one byte how many names there are
abbrev pub title_of : ℕ → ℕ → ℕ → List ℕ
title_of base condensed names = codes "healthd journal 1" ++ to_le_bytes w64 base ++ to_le_bytes w32 condensed ++ names ∷ []

-- the first record, and one for each name, which has the bytes of the name
abbrev pub preface_of : Front → List (List ℕ)
preface_of front = title_of front.base front.condensed (length front.names) ∷ front.names

-- what was found begins with no first record of a preface
abbrev pub HasNoTitle : List (List ℕ) → Type 0
HasNoTitle [] = Unit {0}
HasNoTitle (first ∷ records) = (base condensed names : ℕ) → names ≤ 16 → first ≡ title_of base condensed names → ⊥

-- it begins with one that has more names than are there
pub record IsCutShort (found : List (List ℕ)) : Type 0 where
  pub base : ℕ
  pub condensed : ℕ
  pub names : ℕ
  pub records : List (List ℕ)
  pub begins : found ≡ title_of base condensed names ∷ records
  pub missing : length records < names

-- it does not begin with a preface, for this fault
abbrev pub IsFaulty : List (List ℕ) → PrefaceFault → Type 0
IsFaulty found Memory = Unit {0}
IsFaulty found NoPreface = HasNoTitle found
IsFaulty found CutShort = IsCutShort found
IsFaulty found TooLong = Unit {0}

-- it begins with this preface, which takes so many records
pub record BeginsWith (front : Front) (found : List (List ℕ)) (taken : ℕ) : Type 0 where
  pub is : IsFront front
  pub behind : List (List ℕ)
  pub whole : found ≡ preface_of front ++ behind
  pub count : taken ≡ length front.names + 1
