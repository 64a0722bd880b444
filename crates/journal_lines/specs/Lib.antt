pub mod Damage
pub mod Journal
pub mod Lines
