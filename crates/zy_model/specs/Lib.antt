pub mod Families
pub mod Table
pub mod Leaf
pub mod Wireframe
pub mod Locks
pub mod Order
pub mod Messages
