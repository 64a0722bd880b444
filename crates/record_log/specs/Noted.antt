-- What a file is taken to be after a call that was noted: the one hypothesis on real files.
use Rattle.std.specs.Prelude.{ℕ, ◌+◌, List, [], ◌∷◌, ◌++◌, length, take, drop, Some, None}
use Rattle.record_log.specs.Crashes.{State, contents_of}

-- with no place it was synced; else these bytes were written there
abbrev pub after : List ℕ → List ℕ → List State → List State
after [] bytes past = record { bytes = contents_of past; write = None } ∷ past
after (at ∷ more) bytes past = record { bytes = take at (contents_of past) ++ bytes ++ drop (at + length bytes) (contents_of past); write = Some (at, length bytes) } ∷ past
