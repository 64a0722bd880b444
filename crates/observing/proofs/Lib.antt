pub mod HealthLemmas
pub mod HttpLemmas
pub mod LookoutLemmas
