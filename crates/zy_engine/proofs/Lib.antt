mod MergeLemmas
mod AgainLemmas
pub mod SearchLemmas
mod CheckLemmas
pub mod EndingLemmas
