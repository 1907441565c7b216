-- The walk through the step table: what each step did, one case for each line that changes something; and one choice more of a schedule.
pub mod ModeLines
pub mod Txns
pub mod PlayPush
pub mod Conditions
pub mod Events
pub mod Kinds
pub mod Reordered
