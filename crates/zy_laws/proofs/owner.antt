-- Why each page is in one place, and why no message is stray: where a migration is, which node has which role, and what each step does to that.
pub mod PageCounts
pub mod Phases
pub mod Roles
pub mod PhaseSteps
pub mod MovingPages
pub mod SameOwners
pub mod PageOwners
pub mod LinkOwners
pub mod OneOwner
pub mod Stray
