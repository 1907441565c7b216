pub mod Gaps
pub mod Twins
pub mod Orders
pub mod Ways
pub mod Answers
pub mod Machines
pub mod Reaches
