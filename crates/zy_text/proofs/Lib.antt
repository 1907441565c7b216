pub mod LabelLemmas
pub mod FeedLemmas
pub mod LineLemmas
pub mod KeptLemmas
pub mod PlaceLemmas
mod UsualLemmas
pub mod CutLemmas
pub mod CanonCut
pub mod WordLemmas
