-- Why the database is that of the committed transactions, run one by one.
pub mod Listed
pub mod LoneRuns
pub mod Following
pub mod Committing
pub mod CutValues
pub mod MovedValues
pub mod Values
pub mod FollowingRuns
pub mod Serializable
