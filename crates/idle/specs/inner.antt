-- What the functions promise each other, and what the test promises to the pass.
pub mod Groups
pub mod Idle
