pub mod Lone
pub mod SameMaps
pub mod Covering
pub mod Laying
