pub mod Inputs
pub mod Streams
pub mod Writing
