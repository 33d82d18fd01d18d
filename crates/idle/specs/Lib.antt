-- The idle test: what its functions promise.
pub mod inner
