pub mod AbortLemmas
mod SplitLemmas
mod SumLemmas
mod AllHere
mod TakeLemmas
