pub mod Laws
pub mod Level
pub mod Minute
pub mod Paced
pub mod Second
pub mod Writer
