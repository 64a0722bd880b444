pub mod Format
pub mod Range
pub mod Reading
