mod KeptLemmas
pub mod ReplyLemmas
mod ScanLemmas
pub mod FiringLemmas
