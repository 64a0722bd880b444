mod RangeLemmas
mod SignalLemmas
