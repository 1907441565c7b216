pub mod PageOf
pub mod Longer
pub mod Rows
pub mod Parted
pub mod Rising
pub mod Alone
