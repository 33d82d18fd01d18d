-- What the program prints.
pub mod Program
pub mod Sizes
pub mod inner
