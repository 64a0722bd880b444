pub mod FieldLemmas
pub mod FrontLemmas
pub mod MessageLemmas
pub mod PutLemmas
pub mod RequestLemmas
pub mod RoundTrip
pub mod SpellingLemmas
pub mod VarintLemmas
