pub mod Complete
pub mod SameLogs
