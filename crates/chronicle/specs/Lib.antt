pub mod Time
pub mod Who
