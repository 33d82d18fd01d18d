-- Previews: a step by hand shown first.
pub mod Call
pub mod Claims
