-- What clauses see of a file as a device.
use Rattle.std.specs.Prelude.{ℕ, List}
use Rattle.record_log.specs.Crashes.{contents_of, MayLeave}
use Rattle.record_log.specs.Log.{IsReady}
use Rattle.record_log.specs.declared.file_device.FileDevice.{FileDevice}
use Rattle.record_log.specs.declared.record_log.RecordLog.{RecordLog}

-- what is taken to stand in it
abbrev pub file_bytes : FileDevice → List ℕ
file_bytes file = contents_of file.past.states

-- what a crash is taken to leave of it
abbrev pub file_may_leave : FileDevice → List ℕ → Type 0
file_may_leave file = MayLeave file.past.states

-- the log in a file has these entries, and is ready for more
abbrev pub IsReadyFile : RecordLog FileDevice → List (List ℕ) → Type 0
IsReadyFile log entries = IsReady file_bytes file_may_leave log entries
