pub mod Messages
pub mod Parts
pub mod Fronts
pub mod Splits
pub mod Runs
pub mod Cuts
pub mod Digits
pub mod Readings
