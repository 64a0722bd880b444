pub mod Halves
pub mod Laps
pub mod Spot
