pub mod FailLemmas
pub mod FallLemmas
pub mod FoundLemmas
pub mod LawLemmas
pub mod MetLemmas
pub mod StepLemmas
