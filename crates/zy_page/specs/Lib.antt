pub mod Place
pub mod RowLists
