pub mod Answer
pub mod AskFailure
pub mod Expect
pub mod Fault
pub mod Replay
pub mod Service
pub mod StatusPrinter
pub mod Tell
