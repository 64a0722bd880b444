pub mod Code
pub mod Fault
pub mod Frame
pub mod Lines
pub mod Message
pub mod Split
pub mod Trailers
