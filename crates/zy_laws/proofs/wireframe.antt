-- Why the wireframes agree, and why at most one node is a source.
pub mod OneWireframe
