pub mod WrittenLemmas
pub mod ReadLemmas
pub mod Utf8Lemmas
pub mod AnswerLemmas
pub mod BackLemmas
pub mod WordLemmas
pub mod PlainLemmas
pub mod LogLemmas
