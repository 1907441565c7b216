mod ListingLemmas
mod Worked
mod LinkLemmas
pub mod RunLemmas
