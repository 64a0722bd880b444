pub mod Settled
pub mod Loop
pub mod Places
pub mod Held
