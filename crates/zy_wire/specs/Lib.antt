pub mod ByLow
pub mod Nodes
pub mod Pages
pub mod Ranges
