pub mod ConsoleLemmas
pub mod MadeLemmas
pub mod SeatLemmas
pub mod SaidLemmas
