pub mod TextLemmas
pub mod ReadBackLemmas
pub mod GoalTexts
pub mod GoalLemmas
