mod LawLemmas
mod SafeLemmas
