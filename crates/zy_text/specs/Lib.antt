pub mod Words
pub mod Names
pub mod Canon
pub mod Text
pub mod Lines
pub mod Cut
pub mod Usual
