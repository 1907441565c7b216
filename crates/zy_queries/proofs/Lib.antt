pub mod WordLemmas
pub mod ReadLemmas
pub mod QueryLemmas
pub mod Worked
