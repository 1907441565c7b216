pub mod EachLemmas
pub mod FootprintLemmas
