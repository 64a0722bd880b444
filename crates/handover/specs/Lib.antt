pub mod Address
pub mod Numbers
pub mod Signals
pub mod Sockets
