-- A work state in lent words, and what the calls leave with a caller in another language.
pub mod Words
pub mod Results
pub mod Sequence
pub mod Turns
pub mod Stable
pub mod Rounds
pub mod Previews
pub mod inner
