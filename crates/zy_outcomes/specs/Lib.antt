pub mod Accounts
pub mod Beginnings
pub mod Coming
pub mod GetsOn
pub mod Reasons
