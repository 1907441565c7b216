pub mod FirstWords
pub mod CodeLemmas
pub mod NameLemmas
pub mod PendingLemmas
pub mod SpellLemmas
pub mod DraftLemmas
pub mod FoundLemmas
pub mod FoundPrograms
pub mod FitLemmas
pub mod FoundSteps
pub mod GivesLemmas
pub mod OnlyLemmas
mod HeadLemmas
mod TableLemmas
pub mod CanonLemmas
pub mod InputLemmas
pub mod UsualLemmas
