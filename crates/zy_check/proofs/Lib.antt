pub mod CommonLemmas
pub mod CompareLemmas
pub mod JudgeLemmas
pub mod LawLemmas
