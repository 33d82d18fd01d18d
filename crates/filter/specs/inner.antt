-- What the functions promise each other.
pub mod Steps
pub mod Singles
pub mod Chains
