pub mod Kept
pub mod Laws
pub mod Objects
pub mod Steps
pub mod Subjects
pub mod Trace
