pub mod Fault
pub mod Field
pub mod Message
pub mod Parts
pub mod Request
pub mod Response
pub mod Serving
pub mod Varint
