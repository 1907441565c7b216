pub mod Missing
pub mod Faults
pub mod Ordering
pub mod Runs
pub mod Behind
