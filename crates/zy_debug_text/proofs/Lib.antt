mod OneLemmas
pub mod SaidLemmas
mod ThereLemmas
