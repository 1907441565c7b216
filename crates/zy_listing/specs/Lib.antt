pub mod Texts
pub mod Listing
pub mod Locked
pub mod Nodes
pub mod Run
