pub mod Limits
pub mod Bound
