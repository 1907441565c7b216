pub mod CanonLemmas
