pub mod Txns
pub mod Terms
pub mod Facts
pub mod Goals
pub mod Footprints
