pub mod Connection
pub mod Seats
pub mod SeatLines
pub mod Sessions
pub mod Server
