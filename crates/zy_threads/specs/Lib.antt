pub mod Turns
pub mod Orders
