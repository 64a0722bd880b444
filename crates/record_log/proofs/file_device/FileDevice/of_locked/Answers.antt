use Rattle.std.proofs.lemmas.Result.{IfOk-from_err}
use Rattle.record_log.proofs.file_device.FileDevice.of_locked.Goals as goal

pub returns-in_err-sync_folder : goal.returns-in_err-sync_folder
returns-in_err-sync_folder g c = IfOk-from_err _ _ c.from_residual-in_err-sync_folder.ensures.0

pub returns-in_err-forget : goal.returns-in_err-forget
returns-in_err-forget g c = IfOk-from_err _ _ c.from_residual-in_err-forget.ensures.0

pub returns-in_err-seek : goal.returns-in_err-seek
returns-in_err-seek g c = IfOk-from_err _ _ c.from_residual-in_err-seek.ensures.0

pub returns-in_err-read_to_end : goal.returns-in_err-read_to_end
returns-in_err-read_to_end g c = IfOk-from_err _ _ c.from_residual-in_err-read_to_end.ensures.0

pub returns : goal.returns
returns g c = c.over.ensures.durable
