-- Why every list is in its order.
pub mod Rising
pub mod Ordered
pub mod OrderedSteps
pub mod ListsInOrder
