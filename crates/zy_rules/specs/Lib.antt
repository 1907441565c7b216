pub mod Memory
pub mod Parts
pub mod Ready
pub mod Arrivals
pub mod Fronts
pub mod Sides
