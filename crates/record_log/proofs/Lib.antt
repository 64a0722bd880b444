mod BeginningLemmas
mod CrashLemmas
mod DeviceLemmas
mod GateLemmas
pub mod LawLemmas
pub mod LogLemmas
mod OpeningLemmas
mod ReadingLemmas
mod TakenBackLemmas
