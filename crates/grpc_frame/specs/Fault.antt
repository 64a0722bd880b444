-- The numbers and texts of the faults.
use Rattle.std.specs.Prelude.{ℕ, List, codes}
use Rattle.grpc_frame.specs.declared.fault.FrameFault.{FrameFault}
use Rattle.grpc_frame.specs.declared.fault.FrameFault.TheVariants.{Truncated, Compressed, NoMessage, MoreThanOne, TrailerInRequest, BadFlag}
use Rattle.grpc_frame.specs.declared.fault.SplitFault.{SplitFault}
use Rattle.grpc_frame.specs.declared.fault.SplitFault.TheVariants.{NoMemory, TooLong}
use Rattle.grpc_frame.specs.declared.fault.TrailerFault.{TrailerFault}
use Rattle.grpc_frame.specs.declared.fault.TrailerFault.TheVariants.{NoColon, NoStatus, BadStatus}

-- the number of a fault of a request's body
abbrev pub fault_number : FrameFault → ℕ
fault_number Truncated = 1
fault_number Compressed = 2
fault_number NoMessage = 3
fault_number MoreThanOne = 4
fault_number TrailerInRequest = 5
fault_number BadFlag = 6

-- what is said of a request's body that is not the frame of one message
abbrev pub text_of : FrameFault → List ℕ
text_of Truncated = codes "the body ends inside a frame"
text_of Compressed = codes "the message is compressed"
text_of NoMessage = codes "the body holds no message"
text_of MoreThanOne = codes "the body holds more than one message"
text_of TrailerInRequest = codes "a request has no trailers"
text_of BadFlag = codes "no frame has this flag"

-- the number of a reason why no frame was taken off a stream
abbrev pub split_fault_number : SplitFault → ℕ
split_fault_number NoMemory = 1
split_fault_number TooLong = 2

-- what is said where no frame was taken off a stream
abbrev pub split_text_of : SplitFault → List ℕ
split_text_of NoMemory = codes "out of memory"
split_text_of TooLong = codes "the frame is too long"

-- the number of a fault of trailers
abbrev pub trailer_fault_number : TrailerFault → ℕ
trailer_fault_number NoColon = 1
trailer_fault_number NoStatus = 2
trailer_fault_number BadStatus = 3

-- what is said of trailers that tell no status
abbrev pub trailer_text_of : TrailerFault → List ℕ
trailer_text_of NoColon = codes "a line has no colon"
trailer_text_of NoStatus = codes "no line has a status"
trailer_text_of BadStatus = codes "the status is not one to nine digits"
