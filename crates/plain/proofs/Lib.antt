pub mod BoardLemmas
pub mod JsonLemmas
pub mod MetricLemmas
pub mod NameLemmas
pub mod SlotLemmas
pub mod InquiryLemmas
pub mod TargetLemmas
