pub mod PlacesLemmas
pub mod SettledLemmas
pub mod StandingLemmas
