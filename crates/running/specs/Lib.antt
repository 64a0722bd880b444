pub mod Bounds
pub mod ByteOrderMark
pub mod Expected
pub mod Journaled
pub mod Run
pub mod RunFailure
pub mod RunOptions
pub mod Terminal
