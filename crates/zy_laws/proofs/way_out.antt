-- Why no state is a dead end: a destination that waits lacks a page, and each choice of the way out leaves less to do.
pub mod Lacking
pub mod Less
pub mod Kills
pub mod NoDeadEnd
