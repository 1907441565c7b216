pub mod ScenarioLemmas
pub mod VersionLemmas
pub mod OperationLemmas
pub mod WordLemmas
pub mod ProgramLemmas
pub mod ResultLemmas
pub mod RowLemmas
