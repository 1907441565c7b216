pub mod MissingLemmas
mod TakenLemmas
mod BelowLemmas
mod AnswerLemmas
mod RunLemmas
