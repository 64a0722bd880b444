pub mod LoopLemmas
pub mod RunLemmas
pub mod SeatingLemmas
pub mod SetupLines
pub mod WatchLemmas
