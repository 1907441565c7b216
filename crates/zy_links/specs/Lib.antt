pub mod Messages
pub mod Links
