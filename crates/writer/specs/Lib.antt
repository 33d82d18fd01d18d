-- Texts, lent buffers, and what writers promise.
pub mod Text
pub mod Lent
pub mod inner
