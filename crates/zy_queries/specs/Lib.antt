pub mod Words
pub mod Vocabulary
pub mod Phrases
pub mod Cursors
pub mod Grammar
pub mod Expressions
