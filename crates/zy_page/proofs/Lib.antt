pub mod Found
pub mod Parted
pub mod Cells
pub mod Padded
