mod KeptLemmas
mod LawLemmas
mod TraceLemmas
