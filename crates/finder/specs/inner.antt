-- What functions promise each other.
pub mod Nodes
pub mod Parts
pub mod Finders
