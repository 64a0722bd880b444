mod NumberLemmas
mod WordLemmas
mod LineLemmas
