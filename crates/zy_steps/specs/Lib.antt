pub mod Frames
pub mod Reads
pub mod Alike
pub mod Commute
