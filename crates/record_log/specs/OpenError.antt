-- What opening tells of an error that it met.
use Rattle.record_log.specs.declared.device.DeviceError.{DeviceError}
use Rattle.record_log.specs.declared.device.DeviceError.TheVariants as device
use Rattle.record_log.specs.declared.reading.ReadError.{ReadError}
use Rattle.record_log.specs.declared.reading.ReadError.TheVariants as reading
use Rattle.record_log.specs.declared.open_error.OpenError.{OpenError}
use Rattle.record_log.specs.declared.open_error.OpenError.TheVariants.{Memory, Failed, Damaged}

-- an error of the device
abbrev pub of_device : DeviceError → OpenError
of_device device.Memory = Memory
of_device device.Failed = Failed

-- an error of reading
abbrev pub of_reading : ReadError → OpenError
of_reading reading.Memory = Memory
of_reading (reading.Damaged at) = Damaged at
