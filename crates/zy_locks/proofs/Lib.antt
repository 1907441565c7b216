pub mod Added
pub mod PageRun
pub mod Agreeing
pub mod Held
pub mod Alone
