pub mod Falling
pub mod Found
pub mod Guard
pub mod Laws
pub mod Timer
pub mod Watching
pub mod Wish
