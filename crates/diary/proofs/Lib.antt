pub mod StillLemmas
