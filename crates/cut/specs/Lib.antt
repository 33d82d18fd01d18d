-- The cut step on a work state.
pub mod Call
pub mod Claims
pub mod inner
