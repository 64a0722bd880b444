pub mod CallingLemmas
pub mod ConnectionLemmas
pub mod Counts
pub mod MovedLemmas
pub mod Tables
pub mod TalkingLemmas
pub mod TurnLemmas
pub mod Walks
