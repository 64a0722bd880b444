mod FoundLemmas
mod LineLemmas
mod PlaceLemmas
