pub mod Differs
pub mod Verdicts
pub mod Comparing
