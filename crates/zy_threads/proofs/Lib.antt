mod TurnLemmas
pub mod Reordered
pub mod MergeLemmas
