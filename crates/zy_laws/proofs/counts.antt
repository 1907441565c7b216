-- Why each sum and each index is safe.
pub mod Fates
pub mod Tallies
pub mod SafeCounts
