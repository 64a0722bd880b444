-- What a device in memory shows.
use Rattle.std.specs.Prelude.{◌<◌, ◌^◌, ◌≤◌, List, [], ◌∷◌, length, map}
use Rattle.std.proofs.Common.{subst, zero-lt-suc, lt_of_le_of_lt}
use Rattle.record_log.specs.Crashes.{State, contents_of}
use Rattle.record_log.specs.declared.was.Was.{Was}

-- the states that it was in
abbrev pub states_of : List Was → List State
states_of past = map (λ was. record { bytes = was.bytes.items; write = was.write }) past

-- memory holds fewer bytes than a file may have
pub bounded : (past : List Was) → length (contents_of (states_of past)) < 2 ^ 63
bounded [] = zero-lt-suc _
bounded (was ∷ past) = lt_of_le_of_lt (subst (λ n. n ≤ was.bytes.cap) was.bytes.ok.0 was.bytes.ok.1) was.bytes.small
