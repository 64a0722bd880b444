pub mod AgainLemmas
pub mod CrewServerLemmas
pub mod OwnLemmas
pub mod SeatLemmas
pub mod SetupLemmas
pub mod StoringLemmas
