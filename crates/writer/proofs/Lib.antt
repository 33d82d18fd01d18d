-- Laws of numbers in decimal, of writers one after another, and of lent buffers.
pub mod NumberLaws
pub mod WriterLaws
pub mod FillingLaws
pub mod LentLaws
