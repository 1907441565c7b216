mod BufferedLemmas
pub mod DigitLemmas
mod PairLemmas
mod PieceLemmas
pub mod StreamLemmas
pub mod WritingLemmas
