-- What the functions promise each other.
pub mod Reader
pub mod Writing
