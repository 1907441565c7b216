pub mod Sessions
pub mod Commands
pub mod Checkpoints
pub mod Stops
pub mod Scans
pub mod Slots
