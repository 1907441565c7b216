pub mod Sorts
pub mod SameLogs
pub mod SameOrder
