pub mod Fields
pub mod Steps
pub mod Objects
pub mod Meaning
pub mod Written
pub mod Plain
pub mod Words
pub mod Logs
