pub mod Patterns
pub mod Paged
pub mod Vocabulary
