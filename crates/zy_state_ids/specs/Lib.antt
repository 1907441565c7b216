pub mod Packed
pub mod Codes
pub mod Parts
