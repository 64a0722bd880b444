pub mod AloneLemmas
pub mod ExpectedLemmas
pub mod RunLemmas
pub mod ScriptFailureLemmas
