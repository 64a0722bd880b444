pub mod Again
pub mod CrewServer
pub mod Setup
pub mod Storing
