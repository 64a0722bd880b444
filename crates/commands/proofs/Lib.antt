pub mod AnswerLemmas
pub mod ServiceLemmas
pub mod TellLemmas
