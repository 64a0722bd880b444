-- What is said of bytes that are no message.
use Rattle.std.specs.Prelude.{ℕ, List, codes}
use Rattle.health_wire.specs.declared.fault.WireFault.{WireFault}
use Rattle.health_wire.specs.declared.fault.WireFault.TheVariants.{Truncated, BadTag, BadVarint, NotText, NoMemory}

-- the number of a fault
abbrev pub fault_number : WireFault → ℕ
fault_number Truncated = 1
fault_number BadTag = 2
fault_number BadVarint = 3
fault_number NotText = 4
fault_number NoMemory = 5

-- the text of a fault
abbrev pub text_of : WireFault → List ℕ
text_of Truncated = codes "the message is cut short"
text_of BadTag = codes "a field number or wire type is out of range"
text_of BadVarint = codes "a varint is longer than ten bytes"
text_of NotText = codes "the service name is not UTF-8"
text_of NoMemory = codes "out of memory"
