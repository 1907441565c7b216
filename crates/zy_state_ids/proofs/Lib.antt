pub mod Codecs
pub mod NumberBytes
pub mod Codings
pub mod States
pub mod LinkLemmas
pub mod PartLemmas
pub mod SlotLemmas
pub mod TableLemmas
