-- What a file of entries stands for, at rest and after a crash.
use Rattle.std.specs.Prelude.{◌≡◌, ◌≢◌, ◌⊎◌, ℕ, ◌<◌, ◌≤◌, List, [], ◌∷◌, ◌++◌, length, map, Vec}
use Rattle.std.specs.declared.alloc.Global.{Global}
use Rattle.std.specs.Int.{w32, to_be_bytes}
use Rattle.record_log.specs.Checksum.{crc32}
use Rattle.record_log.specs.Device.{IsDurable}
use Rattle.record_log.specs.declared.record_log.RecordLog.{RecordLog}

-- the bytes of each of these
abbrev pub texts : List (Vec ℕ Global) → List (List ℕ)
texts entries = map (λ entry. entry.items) entries

-- an open gate, the length in one byte, the bytes and their checksum, the highest byte first
abbrev pub block : List ℕ → List ℕ
block entry = 1 ∷ length entry ∷ (entry ++ to_be_bytes w32 (crc32 entry))

-- the blocks of these entries, one behind the other
abbrev pub blocks : List (List ℕ) → List ℕ
blocks [] = []
blocks (entry ∷ entries) = block entry ++ blocks entries

-- the blocks of these entries, a gate that is not open, and whatever is behind it
pub record IsClosed (file : List ℕ) (entries : List (List ℕ)) : Type 0 where
  pub gate : ℕ
  pub rest : List ℕ
  pub shut : gate ≢ 1
  pub whole : file ≡ blocks entries ++ (gate ∷ rest)

-- an empty file, or what a crash left of the first gate's first write: no entries
abbrev pub IsUnbegun : List ℕ → Type 0
IsUnbegun file = length file < 2

-- these are the entries of the file
abbrev pub StandsFor : List ℕ → List (List ℕ) → Type 0
StandsFor file entries = IsClosed file entries ⊎ (IsUnbegun file × (entries ≡ []))

-- from this byte on the file is neither a block nor closed, which no crash leaves
pub record IsDamagedAt (file : List ℕ) (at : ℕ) : Type 0 where
  pub entries : List (List ℕ)
  pub rest : List ℕ
  pub whole : file ≡ blocks entries ++ rest
  pub place : at ≡ length (blocks entries)
  pub begun : 2 ≤ length file
  pub no_block : (entry more : List ℕ) → rest ≡ block entry ++ more → ⊥
  pub no_end : (gate : ℕ) (more : List ℕ) → gate ≢ 1 → rest ≡ gate ∷ more → ⊥

-- the log's file stands for these entries and is on the disk, and the log knows its gate's place
pub record IsReady {D : Type 0} (contents : D → List ℕ) (may_leave : D → List ℕ → Type 0) (log : RecordLog D) (entries : List (List ℕ)) : Type 0 where
  pub file : IsClosed (contents log.device) entries
  pub end : log.end ≡ length (blocks entries)
  pub durable : IsDurable (contents log.device) (may_leave log.device)

-- it might have been left before, or the file was and is not begun
abbrev pub IsAsBefore : (List ℕ → Type 0) → List ℕ → List ℕ → Type 0
IsAsBefore may_leave old file = may_leave file ⊎ (IsUnbegun old × IsUnbegun file)

-- the file stands for the entries from before the batch, or for those and all of the batch
abbrev pub IsBeforeOrAfter : List (List ℕ) → List (List ℕ) → List ℕ → Type 0
IsBeforeOrAfter entries batch file = StandsFor file entries ⊎ StandsFor file (entries ++ batch)
