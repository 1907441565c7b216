pub mod NamedLemmas
pub mod PossibleSteps
pub mod Worked
pub mod FullLemmas
mod ShownLemmas
mod RowLemmas
mod StandLemmas
